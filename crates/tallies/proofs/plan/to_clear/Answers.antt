-- `tallies::plan::to_clear` meets its contract: what its calls ensure.
use mathlib.Core.Path.{sym, ◌∙◌}
use Rattle.tallies.proofs.ZoneLaws.{fits_all}
use Rattle.tallies.proofs.plan.to_clear.Goals as goal

pub decided-requires : goal.decided-requires
decided-requires c = let a = c.args in λ e. fits_all a.particles a.zones.now a.n (sym c.zones_fit-goes.ensures ∙ e)

pub returns : goal.returns
returns c = rw c.zones_fit-goes.ensures at c.decided.ensures
