-- `tallies::ranges::all_below` meets its contract: zone by zone.
use mathlib.Core.Path.{refl, ap}
use mathlib.Core.Bool.{Bool, ◌&&◌}
use native.Mathlib.Numerals.{add-one}
use lib.Dec.{ltb}
use lib.ListN.{get_or}
use Rattle.tallies.specs.Zones.{below_in}
use Rattle.tallies.proofs.ranges.all_below.Goals as goal

pub loop-z-init : goal.loop-z-init
unfolding below_in
loop-z-init c = refl

pub loop-z-preserved : goal.loop-z-preserved
unfolding below_in
loop-z-preserved c = rw (add-one c.loop-z.z-index) (ap (λ (b : Bool). b && ltb (get_or c.args.zones.now c.loop-z.z-index 0) c.args.n) c.loop-z.invariant)
