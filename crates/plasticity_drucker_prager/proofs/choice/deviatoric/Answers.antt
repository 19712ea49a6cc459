-- `plasticity_drucker_prager::choice::deviatoric` answers `values (deviatoric dim e (num trace))`.
use Rattle.std.proofs.Common.{rules}
use lib.Ieee.{nan}
use Rattle.tensor.proofs.Axes.{of_one}
use Rattle.walk.specs.Expr.{num, values}
use Rattle.plasticity_drucker_prager.specs.Alpha.{dim}
use Rattle.plasticity_drucker_prager.specs.Projection.{deviatoric}
use Rattle.plasticity_drucker_prager.proofs.choice.deviatoric.Goals as goal

pub returns : goal.returns
returns c =
    of_one (λ l. values (deviatoric dim l (num c.args.trace))) nan c.args.e (search rules)
