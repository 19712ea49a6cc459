-- `answer_text::put_stored` meets its contract: the words, then the digits.
use Rattle.answer_text.proofs.Puts.{puts_more}
use Rattle.answer_text.proofs.put_stored.Goals as goal

pub returns : goal.returns
returns c =
    puts_more c.well_formed.0.0 c.put-next.ensures c.put_hex.ensures
