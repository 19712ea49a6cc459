-- `plasticity_nacc::surface::spread` answers `values (spread (num k) s (num norm) mean)`.
use Rattle.std.proofs.Common.{rules}
use lib.Ieee.{nan}
use Rattle.tensor.proofs.Axes.{of_one}
use Rattle.walk.specs.Expr.{num, values}
use Rattle.plasticity_nacc.specs.Formulas.{spread}
use Rattle.plasticity_nacc.proofs.surface.spread.Goals as goal

pub returns : goal.returns
returns c =
    of_one (λ l. values (spread (num c.args.k) l (num c.args.norm) c.args.mean)) nan c.args.s (search rules)
