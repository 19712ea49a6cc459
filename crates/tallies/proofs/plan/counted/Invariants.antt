-- `tallies::plan::counted` meets its contract: particle by particle.
use mathlib.Core.Path.{◌≡◌}
use Prim.Native.Nat.{ℕ, ◌<◌}
use lib.ListN.{length, get_or}
use Rattle.tallies.specs.Zones.{listed_in}
use Rattle.tallies.proofs.plan.counted.Given as goal

abbrev pub invariant-loop-z : goal.invariant-loop-z
invariant-loop-z l = (length l.r ≡ 256) × ((z : ℕ) → z < 256 → get_or l.r z 0 ≡ listed_in l.zones z l.z-index)
