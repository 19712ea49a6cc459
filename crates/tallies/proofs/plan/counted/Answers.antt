-- `tallies::plan::counted` meets its contract: particle by particle.
use mathlib.Core.Path.{refl}
use native.Mathlib.Omega.{arith}
use lib.ListN.{length-set, get_or-replicate}
use Rattle.std.proofs.lemmas.Grind.{common_steps}
use Rattle.tallies.specs.Zones.{listed_in}
use Rattle.tallies.proofs.ZoneLaws.{below_at, listed_here, listed_other}
use Rattle.tallies.proofs.plan.counted.Goals as goal

pub loop-z-init : goal.loop-z-init
unfolding listed_in
loop-z-init c = (refl, λ z h. get_or-replicate 256 z 0 0 h)

pub loop-z-preserved : goal.loop-z-preserved
loop-z-preserved c = (simp length-set c.loop-z.invariant.0, λ y l. grind (arith, common_steps, below_at, listed_here, listed_other))
