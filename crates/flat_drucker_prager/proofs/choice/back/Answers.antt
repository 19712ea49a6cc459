-- `flat_drucker_prager::choice::back` answers `values (back e d (num gamma) (num norm))`.
use Rattle.std.proofs.Common.{rules}
use lib.Ieee.{nan}
use Rattle.flat.proofs.Axes.{of_two}
use Rattle.walk.specs.Expr.{num, values}
use Rattle.plasticity_drucker_prager.specs.Projection.{back}
use Rattle.flat_drucker_prager.proofs.choice.back.Goals as goal

pub returns : goal.returns
returns c =
    of_two (λ e d. values (back e d (num c.args.gamma) (num c.args.norm))) nan nan c.args.e c.args.d (search rules) (search rules)
