-- Entry by entry, of three entries.
use Rattle.std.proofs.Common.{rules}
use lib.Ieee.{nan}
use Rattle.tensor.proofs.Axes.{of_one}
use mathlib.Core.List.{map}
use Rattle.numbers.specs.Floats.{max_of}
use Rattle.tensor.specs.Matrix.{zero}
use Rattle.elasticity_corotated_linear.proofs.stress.positive.Goals as goal

pub returns : goal.returns
returns c =
    simp (c.max-3.ensures, c.max-2.ensures, c.max.ensures)
    (of_one (λ e. map (λ x. max_of x zero) e) nan c.args.e (search rules))
