-- `tallies::slice::settle_all` meets its contract: tally by tally; those below z are settled.
use mathlib.Core.Path.{◌≡◌, refl, ◌∙◌}
use Prim.Native.Nat.{◌<◌}
use native.Mathlib.Numerals.{add-one}
use native.Mathlib.Omega.{arith}
use lib.ListN.{length}
use Rattle.tallies.specs.Plans.{room_by}
use Rattle.tallies.proofs.Settling.{none_settled, as_it_came, settled_next, all_settled}
use Rattle.tallies.proofs.slice.settle_all.Goals as goal

pub loop-z-init : goal.loop-z-init
unfolding room_by
loop-z-init c = let a = c.args in (none_settled a.what a.counts.now a.ts.now, refl)

pub loop-z-preserved : goal.loop-z-preserved
unfolding room_by
loop-z-preserved c =
    let a = c.args in
    let l = c.loop-z in
    let v = l.invariant in
    let h : l.z < length a.ts.now = omega arith in (
      settled_next a.what a.counts.now a.ts.now l.ts l.z v.0 h c.settled.result c.settled.ensures,
      rw (add-one l.z, ← v.1, ← as_it_came a.what a.counts.now a.ts.now l.ts l.z v.0 h) c.room_too-ok.ensures,
    )

pub returns : goal.returns
returns c =
    let a = c.args in
    let l = c.loop-z in
    let e : l.z ≡ length a.ts.now = omega arith in
    (rw e at l.invariant.1, (rw e at l.invariant.0) ∙ all_settled a.what a.counts.now a.ts.now)
