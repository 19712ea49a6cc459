-- `tallies::slice::settle_all` meets its contract: tally by tally; those below z are settled.
use mathlib.Core.Path.{◌≡◌}
use Rattle.tallies.specs.Tallies.{by_zone}
use Rattle.tallies.specs.Plans.{room_by}
use Rattle.tallies.proofs.Settling.{settled_below}
use Rattle.tallies.proofs.slice.settle_all.Given as goal

abbrev pub invariant-loop-z : goal.invariant-loop-z
invariant-loop-z l = (l.ts ≡ by_zone (settled_below l.what l.counts l.z) 0 l.initial.ts) × (l.ok ≡ room_by l.counts l.initial.ts l.z)
