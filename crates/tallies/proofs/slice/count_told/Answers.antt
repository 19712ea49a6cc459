-- `tallies::slice::count_told` meets its contract: failed first, where told, and then one number more of the same tally.
use mathlib.Core.Path.{◌≡◌, sym, ap, ◌∙◌}
use mathlib.Core.Bool.{Bool, true, false}
use mathlib.Core.List.{List}
use Prim.Native.Nat.{ℕ, ◌<◌}
use lib.ListN.{length, get_or, set}
use lib.Seq.{get_or-set_same, set-set, set-get_or}
use borrow.Author.Tests.{eq-eqb, ne_eqb}
use Rattle.tallies.specs.declared.tally.Tally.{Tally}
use Rattle.tallies.specs.Tallies.{none}
use Rattle.tallies.proofs.Telling.{with_failed, more_untouched, more_stored, more_refused, was_untouched, was_stored, was_refused}
use Rattle.tallies.proofs.slice.count_told.Goals as goal
use Rattle.tallies.proofs.slice.count_told.Goals.{then-d, else-d}

-- one tally is changed by g, after failed was counted in it
twice : (g : Tally → Bool → Tally) (ts us : List Tally) (z : ℕ) (f : Bool) (r : Tally) → z < length ts → us ≡ set ts z (with_failed (get_or ts z none) f)
    → g (with_failed (get_or ts z none) f) false ≡ r → set us z (g (get_or us z none) false) ≡ set ts z r
twice g ts us z f r h e k =
    let t = with_failed (get_or ts z none) f in
    rw (e, get_or-set_same ts z t none h, set-set ts z t (g t false)) (ap (set ts z) k)

pub returns-then-d-eq0 : goal.returns-then-d-eq0
returns-then-d-eq0 c =
    let a = c.args in
    let ts = a.ts.now in
    let t = get_or ts a.z none in
    let k = eq-eqb _ _ c.if-d-eq0.true in
    elim c.if-d.branch [ then-d w ↦ twice more_untouched ts _ a.z true _ c.requires.0 w.ts-is (was_untouched t a.d true w.if-d.true k) | else-d w ↦ twice more_untouched ts _ a.z false _ c.requires.0 (w.ts-is ∙ sym (set-get_or ts a.z none)) (was_untouched t a.d false w.if-d.false k) ]

pub returns-then-d-eq1 : goal.returns-then-d-eq1
returns-then-d-eq1 c =
    let a = c.args in
    let ts = a.ts.now in
    let t = get_or ts a.z none in
    let n = ne_eqb _ _ c.if-d-eq0.false in
    let k = eq-eqb _ _ c.if-d-eq1.true in
    elim c.if-d.branch [ then-d w ↦ twice more_stored ts _ a.z true _ c.requires.0 w.ts-is (was_stored t a.d true w.if-d.true n k) | else-d w ↦ twice more_stored ts _ a.z false _ c.requires.0 (w.ts-is ∙ sym (set-get_or ts a.z none)) (was_stored t a.d false w.if-d.false n k) ]

pub returns : goal.returns
returns c =
    let a = c.args in
    let ts = a.ts.now in
    let t = get_or ts a.z none in
    let n = ne_eqb _ _ c.if-d-eq0.false in
    let k = ne_eqb _ _ c.if-d-eq1.false in
    elim c.if-d.branch [ then-d w ↦ twice more_refused ts _ a.z true _ c.requires.0 w.ts-is (was_refused t a.d true w.if-d.true n k) | else-d w ↦ twice more_refused ts _ a.z false _ c.requires.0 (w.ts-is ∙ sym (set-get_or ts a.z none)) (was_refused t a.d false w.if-d.false n k) ]
