-- The squares by the integer power, of three entries.
use Rattle.tensor.specs.Matrix.{sum_of}
use Rattle.tensor.proofs.Axes.{of_one}
use Rattle.numbers.specs.Power.{powi_of}
use mathlib.Core.List.{map}
use lib.Ieee.{nan}
use Rattle.std.proofs.Common.{rules}
use Rattle.elasticity_corotated_linear.proofs.energy.squares.Goals as goal

pub returns : goal.returns
unfolding sum_of
returns c =
    simp (c.powi-3.ensures, c.powi-2.ensures, c.powi.ensures)
    (of_one (λ e. sum_of (map (λ x. powi_of x 2) e)) nan c.args.e (search rules))
