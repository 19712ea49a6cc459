-- `flat::matrix::row_sub` answers `row_sub_of a b`.
use Rattle.std.proofs.Common.{rules}
use lib.Ieee.{nan}
use Rattle.flat.proofs.Axes.{of_two}
use Rattle.tensor.specs.Matrix.{row_sub_of}
use Rattle.flat.proofs.matrix.row_sub.Goals as goal

pub returns : goal.returns
unfolding row_sub_of
returns c = of_two row_sub_of nan nan c.args.a c.args.b (search rules) (search rules)
