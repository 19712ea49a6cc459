-- Entry by entry, of three entries.
use lib.Ieee.{nan}
use Rattle.tensor.proofs.Axes.{of_two}
use Rattle.walk.specs.Expr.{values}
use Rattle.elasticity_corotated_linear.specs.Principal.{dev_stresses}
use Rattle.std.proofs.Common.{rules}
use Rattle.elasticity_corotated_linear.proofs.principal.dev_stresses.Goals as goal

pub returns : goal.returns
returns c =
    let a = c.args in
    simp (c.stretched-3.ensures, c.stretched-2.ensures, c.stretched.ensures)
    (of_two (λ e s. values (dev_stresses a.p a.h e s)) nan nan a.e a.s (search rules) (search rules))
