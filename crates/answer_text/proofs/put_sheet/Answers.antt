-- `answer_text::put_sheet` meets its contract: its pieces in their order.
use Rattle.answer_text.specs.Text.{sheet_text}
use Rattle.answer_text.proofs.Puts.{puts_more}
use Rattle.answer_text.proofs.put_sheet.Goals as goal

pub returns : goal.returns
unfolding sheet_text
returns c =
    let small = c.well_formed.0.0 in
    puts_more small (puts_more small (puts_more small c.put_number-a.ensures c.put-b.ensures) c.put_lines-c.ensures) c.put.ensures
