-- `host_sheets::reports::pasoletu_join_reports` meets its contract.
use mathlib.Core.Bool.{◌&&◌}
use lib.Dec.{eqb}
use lib.ListN.{length}
use borrow.Author.Tests.{eqb-true}
use Rattle.host_lists.proofs.Called.{fitting, not_fitting}
use Rattle.numbers.proofs.Laws.{and_both}
use Rattle.host_sheets.specs.Reports.{join_by}
use Rattle.host_sheets.proofs.reports.pasoletu_join_reports.Goals as goal

pub put_reported-requires : goal.put_reported-requires
put_reported-requires c =
    let a = c.args in
    let t = and_both (eqb (length a.first.now) 18 && eqb (length a.second.now) 18) (eqb (length a.joined.now) 18) c.if-first-second.true in
    eqb-true _ _ t.1

pub returns-then-first-second : goal.returns-then-first-second
unfolding join_by
returns-then-first-second c =
    let p = c.put_reported.ensures in
    let r = c.joined-r.ensures in
    let x = c.report_at.ensures in
    let y = c.report_at-then-first-second.ensures in
    let t = c.if-first-second.true in
    fitting _ _ _ t (rw (r, x, y) at p)

pub returns : goal.returns
unfolding join_by
returns c = not_fitting _ _ _ c.if-first-second.false
