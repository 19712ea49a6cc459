-- `report::over` meets its contract: by the length, column by column.
use Rattle.std.proofs.Common.{eq-eqb, ne_eqb, le-leb}
use borrow.Author.Tests.{lt-leb}
use Rattle.report.specs.Report.{report_of}
use Rattle.report.proofs.over.Goals as goal

pub returns-then-n-le-MOST : goal.returns-then-n-le-MOST
unfolding report_of
returns-then-n-le-MOST c =
    simp (c.at_place-then-n-le-MOST-2.ensures, c.at_place-then-n-le-MOST.ensures, c.at_place.ensures, eq-eqb _ _ c.if-n-l.true, le-leb _ _ c.if-n-le-MOST.true)

pub returns-else-n-le-MOST : goal.returns-else-n-le-MOST
unfolding report_of
returns-else-n-le-MOST c = simp (eq-eqb _ _ c.if-n-l.true, lt-leb _ _ c.if-n-le-MOST.false)

pub returns-else-n-l : goal.returns-else-n-l
unfolding report_of
returns-else-n-l c = simp (ne_eqb _ _ c.if-n-l.false)
