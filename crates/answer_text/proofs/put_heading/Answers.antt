-- `answer_text::put_heading` meets its contract: its three pieces.
use Rattle.answer_text.specs.Text.{heading_text}
use Rattle.answer_text.proofs.Puts.{puts_more}
use Rattle.answer_text.proofs.put_heading.Goals as goal

pub returns : goal.returns
unfolding heading_text
returns c =
    puts_more c.well_formed.0.0 c.put_number-a.ensures c.put.ensures
