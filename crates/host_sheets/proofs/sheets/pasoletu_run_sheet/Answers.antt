-- `host_sheets::sheets::pasoletu_run_sheet` meets its contract.
use borrow.Author.Tests.{eq-eqb, ne_eqb}
use Rattle.host_lists.proofs.Called.{fitting, not_fitting, all_three}
use Rattle.host_sheets.specs.Sheets.{run_by}
use Rattle.host_sheets.proofs.sheets.pasoletu_run_sheet.Goals as goal

pub returns-then-counts-ne4 : goal.returns-then-counts-ne4
unfolding run_by
returns-then-counts-ne4 c = not_fitting _ _ _ (ne_eqb _ _ c.if-counts-ne4.true)

pub returns : goal.returns
unfolding run_by
returns c =
    let p = c.put_ran.ensures in
    let r = c.run_sheet-ran.ensures in
    let e = eq-eqb _ _ c.if-counts-ne4.false in
    fitting _ _ _ e (all_three (rw r.value at p.value) r.records_after r.answers_after (rw r.value at p.counts_after))
