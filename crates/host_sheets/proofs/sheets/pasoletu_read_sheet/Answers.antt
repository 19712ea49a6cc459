-- `host_sheets::sheets::pasoletu_read_sheet` meets its contract.
use borrow.Author.Tests.{eq-eqb, ne_eqb}
use Rattle.host_lists.proofs.Called.{fitting, not_fitting, both}
use Rattle.host_sheets.specs.Sheets.{read_by}
use Rattle.host_sheets.proofs.sheets.pasoletu_read_sheet.Goals as goal

pub returns-then-header-ne11 : goal.returns-then-header-ne11
unfolding read_by
returns-then-header-ne11 c = not_fitting _ _ _ (ne_eqb _ _ c.if-header-ne11.true)

pub returns : goal.returns
unfolding read_by
returns c =
    let h = c.put_header.ensures in
    let r = c.read-h.ensures in
    let e = eq-eqb _ _ c.if-header-ne11.false in
    fitting _ _ _ e (both (rw r.0 at h.value) (rw r.0 at h.header_after) r.1)
