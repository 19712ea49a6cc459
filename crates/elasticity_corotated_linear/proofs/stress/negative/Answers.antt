-- Entry by entry, of three entries.
use Rattle.std.proofs.Common.{rules}
use lib.Ieee.{nan}
use Rattle.tensor.proofs.Axes.{of_one}
use mathlib.Core.List.{map}
use Rattle.numbers.specs.Floats.{min_of}
use Rattle.tensor.specs.Matrix.{zero}
use Rattle.elasticity_corotated_linear.proofs.stress.negative.Goals as goal

pub returns : goal.returns
returns c =
    simp (c.min-3.ensures, c.min-2.ensures, c.min.ensures)
    (of_one (λ e. map (λ x. min_of x zero) e) nan c.args.e (search rules))
