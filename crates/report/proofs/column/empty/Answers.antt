-- `report::column::empty` meets its contract: the definition at no value.
use Rattle.std.proofs.Common.{refl}
use Rattle.report.specs.Column.{those, word, sum_of, column_of}
use Rattle.report.proofs.column.empty.Goals as goal

pub returns : goal.returns
unfolding column_of those word sum_of
returns c = refl
