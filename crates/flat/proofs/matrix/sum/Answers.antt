-- `flat::matrix::sum` answers `sum_of e`.
use Rattle.std.proofs.Common.{rules}
use lib.Ieee.{nan}
use Rattle.flat.proofs.Axes.{of_one}
use Rattle.tensor.specs.Matrix.{sum_of}
use Rattle.flat.proofs.matrix.sum.Goals as goal

pub returns : goal.returns
unfolding sum_of
returns c = of_one sum_of nan c.args.e (search rules)
