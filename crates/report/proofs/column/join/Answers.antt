-- `report::column::join` meets its contract: what its calls ensure, number by number.
use Rattle.std.proofs.Common.{refl}
use Rattle.report.specs.Joined.{join_columns}
use Rattle.report.proofs.Columns.{same_column}
use Rattle.report.proofs.column.join.Goals as goal

pub returns : goal.returns
unfolding join_columns
returns c =
    same_column refl c.least.ensures c.greatest.ensures c.wrapping_add_u64.ensures.value refl refl
