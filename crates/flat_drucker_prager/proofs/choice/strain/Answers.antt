-- `flat_drucker_prager::choice::strain` answers `values (strain dim logs gain)`.
use Rattle.std.proofs.Common.{rules}
use lib.Ieee.{nan}
use Rattle.flat.proofs.Axes.{of_one}
use Rattle.walk.specs.Expr.{values}
use Rattle.flat_drucker_prager.specs.DruckerPrager.{dim}
use Rattle.plasticity_drucker_prager.specs.Projection.{strain}
use Rattle.flat_drucker_prager.proofs.choice.strain.Goals as goal

pub returns : goal.returns
returns c =
    of_one (λ l. values (strain dim l c.args.gain)) nan c.args.logs (search rules)
