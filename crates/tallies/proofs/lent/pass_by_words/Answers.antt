-- `tallies::lent::pass_by_words` meets its contract: 8, then 12, then the call itself.
use mathlib.Core.Path.{◌≡◌, refl, sym, ◌∙◌}
use mathlib.Core.Bool.{Bool, true, false, cond, ◌&&◌, false≢true}
use mathlib.Core.List.{List}
use Prim.Native.Nat.{ℕ}
use borrow.Author.Tests.{eqb-true, lt-leb}
use Rattle.numbers.proofs.Laws.{and_both}
use Rattle.answers.specs.Refusals.{wrong_length}
use Rattle.particles.specs.Pass.{well_sized}
use Rattle.tallies.specs.Words.{whole}
use Rattle.tallies.proofs.lent.pass_by_words.Goals as goal

-- 8 of either list comes first
eight : (a b : Bool) (k : ℕ) → a && b ≡ false → wrong_length ≡ cond a (cond b k wrong_length) wrong_length
eight true true k e = absurd (false≢true (sym e))
eight true false k e = refl
eight false b k e = refl

kept : (a b g : Bool) (x y : List ℕ) → a && b ≡ false → y ≡ cond a (cond (b && g) x y) y
kept true true g x y e = absurd (false≢true (sym e))
kept true false g x y e = refl
kept false b g x y e = refl

left : (a b g : Bool) (x y : List ℕ) → a && b ≡ false → y ≡ cond (a && (b && g)) x y
left true true g x y e = absurd (false≢true (sym e))
left true false g x y e = refl
left false b g x y e = refl

pub pass_up_to-requires : goal.pass_up_to-requires
pass_up_to-requires c =
    let q = and_both c.whole_words.result c.well_sized.result c.if-whole_words-well_sized.true in
    (c.if-n-le-ZONES.true, sym (eqb-true _ _ (sym c.whole_words.ensures ∙ q.0)))

pub returns-then-n-le-ZONES : goal.returns-then-n-le-ZONES
returns-then-n-le-ZONES c =
    let q = and_both c.whole_words.result c.well_sized.result c.if-whole_words-well_sized.true in
    let w = sym c.whole_words.ensures ∙ q.0 in
    let e = c.pass_up_to.ensures in
    record { value = rw w e.value; xs_after = rw w e.xs_after; out_after = rw w e.out_after; tallies_after = rw w e.tallies_after }

pub returns-then-whole_words-well_sized : goal.returns-then-whole_words-well_sized
returns-then-whole_words-well_sized c =
    let q = and_both c.whole_words.result c.well_sized.result c.if-whole_words-well_sized.true in
    let w = sym c.whole_words.ensures ∙ q.0 in
    let s = sym c.well_sized.ensures ∙ q.1 in
    let t = lt-leb _ _ c.if-n-le-ZONES.false in
    record { value = simp (w, s, t); xs_after = simp (w, s, t); out_after = simp (w, s, t); tallies_after = simp (w, s, t) }

pub returns : goal.returns
returns c =
    let a = c.args in
    let f : whole a.tallies.now && well_sized a.xs.now a.out.now ≡ false = simp (c.whole_words.ensures, c.well_sized.ensures) at c.if-whole_words-well_sized.false in record { value = eight (whole a.tallies.now) (well_sized a.xs.now a.out.now) _ f; xs_after = kept (whole a.tallies.now) (well_sized a.xs.now a.out.now) _ _ a.xs.now f; out_after = kept (whole a.tallies.now) (well_sized a.xs.now a.out.now) _ _ a.out.now f; tallies_after = left (whole a.tallies.now) (well_sized a.xs.now a.out.now) _ _ a.tallies.now f }
