-- What was written ends within the text, so that it is all of the heading and the answer.
use Rattle.std.proofs.Common.{◌∙◌, ap, Some, arith}
use Rattle.answer_text.proofs.Puts.{puts_more, puts_whole}
use Rattle.lines.proofs.print_under.Goals as goal

pub returns : goal.returns
returns g c =
    let w = c.in_ok-write_front.ensures in
    let whole = puts_more (omega arith) c.put_heading-at.ensures c.put_answer-end.ensures in
    record {
      missing = λ e. absurd cc;
      printed = rw c.in-Some.is (ap Some (w.0 ∙ puts_whole (omega arith) whole w.1));
    }
