-- `answer_text::put_number` meets its contract: the words, then the digits.
use Rattle.answer_text.proofs.Puts.{puts_more}
use Rattle.answer_text.proofs.put_number.Goals as goal

pub returns : goal.returns
returns c =
    puts_more c.well_formed.0.0 c.put-next.ensures c.put_decimal.ensures
