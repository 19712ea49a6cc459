-- `flat::matrix::scaled_row` answers `scaled_row_of u s`.
use Rattle.std.proofs.Common.{rules}
use lib.Ieee.{nan}
use Rattle.flat.proofs.Axes.{of_two}
use Rattle.tensor.specs.Matrix.{scaled_row_of}
use Rattle.flat.proofs.matrix.scaled_row.Goals as goal

pub returns : goal.returns
unfolding scaled_row_of
returns c = of_two scaled_row_of nan nan c.args.u c.args.s (search rules) (search rules)
