-- `flat::matrix::dot` answers `dot_of a b`.
use Rattle.std.proofs.Common.{rules}
use lib.Ieee.{nan}
use Rattle.flat.proofs.Axes.{of_two}
use Rattle.tensor.specs.Matrix.{dot_of, sum_of}
use Rattle.flat.proofs.matrix.dot.Goals as goal

pub returns : goal.returns
unfolding dot_of sum_of
returns c = of_two dot_of nan nan c.args.a c.args.b (search rules) (search rules)
