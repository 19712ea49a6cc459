-- `tensor::matrix::row_add` answers `row_add_of a b`.
use Rattle.std.proofs.Common.{rules}
use lib.Ieee.{nan}
use Rattle.tensor.proofs.Axes.{of_two}
use Rattle.tensor.specs.Matrix.{row_add_of}
use Rattle.tensor.proofs.matrix.row_add.Goals as goal

pub returns : goal.returns
unfolding row_add_of
returns c = of_two row_add_of nan nan c.args.a c.args.b (search rules) (search rules)
