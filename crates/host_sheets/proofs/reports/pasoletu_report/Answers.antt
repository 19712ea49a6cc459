-- `host_sheets::reports::pasoletu_report` meets its contract.
use borrow.Author.Tests.{eq-eqb, ne_eqb}
use Rattle.host_lists.proofs.Called.{fitting, not_fitting}
use Rattle.host_sheets.specs.Reports.{report_by}
use Rattle.host_sheets.proofs.reports.pasoletu_report.Goals as goal

pub returns-then-report-ne18 : goal.returns-then-report-ne18
unfolding report_by
returns-then-report-ne18 c = not_fitting _ _ _ (ne_eqb _ _ c.if-report-ne18.true)

pub returns : goal.returns
unfolding report_by
returns c =
    let p = c.put_reported.ensures in
    let r = c.over-r.ensures in
    let e = eq-eqb _ _ c.if-report-ne18.false in
    fitting _ _ _ e (rw r at p)
