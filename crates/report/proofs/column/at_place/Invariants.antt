-- `report::column::at_place` meets its contract: a value more is a column put to it.
use Rattle.std.proofs.Common.{◌≡◌}
use Rattle.report.specs.Column.{column_of}
use Rattle.report.specs.Report.{values}
use Rattle.report.proofs.column.at_place.Given as goal

abbrev pub invariant-loop-i : goal.invariant-loop-i
invariant-loop-i l = l.c ≡ column_of (values l.place l.l l.i)
