-- `factors::check::not_below` meets its contract. Assumes nothing.
use lib.Ieee.{nan}
use Rattle.tensor.proofs.Axes.{of_one}
use Rattle.factors.specs.Check.{not_below}
use Rattle.std.proofs.Common.{rules}
use Rattle.factors.proofs.check.not_below.Goals as goal

pub returns : goal.returns
unfolding not_below
returns c = of_one not_below nan c.args.s (search rules)
