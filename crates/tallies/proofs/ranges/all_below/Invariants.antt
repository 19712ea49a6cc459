-- `tallies::ranges::all_below` meets its contract: zone by zone.
use mathlib.Core.Path.{◌≡◌}
use Rattle.tallies.specs.Zones.{below_in}
use Rattle.tallies.proofs.ranges.all_below.Given as goal

abbrev pub invariant-loop-z : goal.invariant-loop-z
invariant-loop-z l = l.ok ≡ below_in l.n l.zones l.z-index
