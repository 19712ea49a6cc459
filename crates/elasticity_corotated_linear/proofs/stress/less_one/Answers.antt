-- Entry by entry, of three entries.
use Rattle.std.proofs.Common.{rules}
use lib.Ieee.{nan}
use Rattle.tensor.proofs.Axes.{of_one}
use Rattle.walk.specs.Expr.{values}
use Rattle.elasticity_corotated_linear.specs.Stress.{less_one}
use Rattle.elasticity_corotated_linear.proofs.stress.less_one.Goals as goal

pub returns : goal.returns
returns c = of_one (λ s. values (less_one s)) nan c.args.s (search rules)
