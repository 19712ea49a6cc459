-- `answer_text::put_line` meets its contract: its three pieces.
use Rattle.answer_text.specs.Text.{line}
use Rattle.answer_text.proofs.Puts.{puts_more}
use Rattle.answer_text.proofs.put_line.Goals as goal

pub returns : goal.returns
unfolding line
returns c =
    let small = c.well_formed.0.0 in
    puts_more small (puts_more small c.put_decimal-a.ensures c.put_outcome-b.ensures) c.put.ensures
