-- `host_sheets::sheets::pasoletu_write_sheet` meets its contract.
use borrow.Author.Tests.{eq-eqb, ne_eqb}
use Rattle.host_lists.proofs.Called.{fitting, not_fitting, both}
use Rattle.host_sheets.specs.Sheets.{write_by}
use Rattle.host_sheets.proofs.sheets.pasoletu_write_sheet.Goals as goal

pub returns-then-written-ne1 : goal.returns-then-written-ne1
unfolding write_by
returns-then-written-ne1 c = not_fitting _ _ _ (ne_eqb _ _ c.if-written-ne1.true)

pub returns : goal.returns
unfolding write_by
returns c =
    let p = c.put_written.ensures in
    let w = c.write-w.ensures in
    let e = eq-eqb _ _ c.if-written-ne1.false in
    fitting _ _ _ e (both (rw w.value at p.value) w.room_after (rw w.value at p.written_after))
