-- `tensor::matrix::row_scale` answers `row_scale_of k a`.
use Rattle.std.proofs.Common.{rules}
use lib.Ieee.{nan}
use Rattle.tensor.proofs.Axes.{of_one}
use Rattle.tensor.specs.Matrix.{row_scale_of}
use Rattle.tensor.proofs.matrix.row_scale.Goals as goal

pub returns : goal.returns
unfolding row_scale_of
returns c = of_one (row_scale_of c.args.k) nan c.args.a (search rules)
