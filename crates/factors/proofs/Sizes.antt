-- The sizes of floats, the larger of two, and what holds of three. Assumes nothing.
use mathlib.Core.Path.{◌≡◌, refl, sym, ap, ap₂, ◌∙◌, subst}
use mathlib.Core.Bool.{Bool, true, false, not, cond, ◌&&◌}
use mathlib.Core.List.{List}
use Prim.Native.Nat as Nat
use Prim.Native.Nat.{ℕ, suc, ◌+◌, ◌≤◌, ◌<◌}
use native.Mathlib.Omega.{arith}
use lib.Dec.{T, ltb, lt→ltb}
use lib.Arith.{le→nltb}
use lib.ListN.{length, get_or}
use lib.Ieee.Bits.{is_true, is_false}
use lib.IntN.{ℤ, pos}
use lib.Ieee as Ieee
use lib.Ieee.{Float, binary64, of_bits, neg, fits}
use Rattle.exact.specs.Units.{L, mag, sgn, Fin64}
use Rattle.exact.specs.Integers.{p, n, ◌≤ᶻ◌}
use Rattle.exact.specs.Value.{val, signed}
use Rattle.exact.proofs.Order.{lt_val}
use Rattle.exact.proofs.Positives.{neg_mag, neg_fine, neg_sign}
use Rattle.numbers.specs.Floats.{finite}
use Rattle.numbers.proofs.Laws.{finite_is, and_both}
use Rattle.nearness.proofs.Rounded.{naught_fine, naught_val}
use Rattle.tensor.specs.Axes.{all_of}
use Rattle.tensor.proofs.Axes.{of_one}
use Rattle.tensor.specs.Matrix.{zero}
use Rattle.factors.specs.Check.{Size, larger}

pub fine : (x : Float) → fits binary64 x ≡ true → finite x ≡ true → Fin64 x
fine x f h = (subst T (sym (sym (finite_is x) ∙ h)) tt, subst T (sym f) tt)

-- tests as the code makes them
pub no : {b : Bool} → b ≡ false → T (not b)
no e = subst (λ c. T (not c)) (sym e) tt

pub size_neg : (x : Float) → Fin64 x → T (Ieee.lt x zero) → Size (mag x) (neg x)
unfolding val
size_neg x f h = record { fine = neg_fine x f; units = neg_mag x; plus = ap₂ signed (neg_sign x f) (neg_mag x) ∙ go (sgn x) (mag x) (rw naught_val at ((lt_val x zero f naught_fine).0 h)) }
  where
    go : (s : Bool) (m : ℕ) → p (signed s m) + 0 < 0 + n (signed s m) → signed (not s) m ≡ pos m
    go true m l = refl
    go false m l = absurd (omega arith)

pub size_plus : (x : Float) → Fin64 x → T (not (Ieee.lt x zero)) → Size (mag x) x
unfolding val
size_plus x f h = record { fine = f; units = refl; plus = go (sgn x) (mag x) (rw naught_val at ((lt_val x zero f naught_fine).1 h)) }
  where
    go : (s : Bool) (m : ℕ) → 0 + n (signed s m) ≤ p (signed s m) + 0 → signed s m ≡ pos m
    go false m l = refl
    go true Nat.zero l = refl
    go true (suc m) l = absurd (omega arith)

pub size_own : {k : ℕ} {r : Float} → Size k r → Size (mag r) r
size_own {k} {r} s = record { fine = s.fine; units = refl; plus = s.plus ∙ ap pos (sym s.units) }

module _ (a b : Float) (s : Size (mag a) a) (t : Size (mag b) b) where
  pub right : T (Ieee.lt a b) → Size (larger (mag a) (mag b)) b
  right h =
      let l : mag a < mag b = go (val a) (val b) s.plus t.plus ((lt_val a b s.fine t.fine).0 h) in
      subst (λ k. Size k b) (sym (ap (λ (c : Bool). cond c (mag b) (mag a)) (is_true (ltb (mag a) (mag b)) (lt→ltb (mag a) (mag b) l)))) t
    where
      go : (y z : ℤ) → y ≡ pos (mag a) → z ≡ pos (mag b) → p y + n z < p z + n y → mag a < mag b
      go y z e g h = omega (arith, rw (e, g) at h)

  pub left : T (not (Ieee.lt a b)) → Size (larger (mag a) (mag b)) a
  left h =
      let l : mag b ≤ mag a = go (val a) (val b) s.plus t.plus ((lt_val a b s.fine t.fine).1 h) in
      subst (λ k. Size k a) (sym (ap (λ (c : Bool). cond c (mag b) (mag a)) (is_false (ltb (mag a) (mag b)) (le→nltb (mag a) (mag b) l)))) s
    where
      go : (y z : ℤ) → y ≡ pos (mag a) → z ≡ pos (mag b) → z ≤ᶻ y → mag b ≤ mag a
      go y z e g h = omega (arith, rw (e, g) at h)

pub of_size : {a b c d : ℕ} {x : Float} → a ≡ b → c ≡ d → Size (larger a c) x → Size (larger b d) x
of_size {a} {b} {c} {d} {x} e f s = subst (λ k. Size k x) (ap₂ larger e f) s

-- all of a list of three hold, so each does
module _ {A : Type 0} (t : A → Bool) (d : A) (l : List A) (n : length l ≡ 3) (h : all_of t l ≡ true) where
  parts : (t (get_or l 0 d) && t (get_or l 1 d) ≡ true) × (t (get_or l 2 d) ≡ true)
  parts = and_both (t (get_or l 0 d) && t (get_or l 1 d)) (t (get_or l 2 d)) (of_one (all_of t) d l n ∙ h)

  pub each0 : t (get_or l 0 d) ≡ true
  each0 = (and_both (t (get_or l 0 d)) (t (get_or l 1 d)) parts.0).0

  pub each1 : t (get_or l 1 d) ≡ true
  each1 = (and_both (t (get_or l 0 d)) (t (get_or l 1 d)) parts.0).1

  pub each2 : t (get_or l 2 d) ≡ true
  each2 = parts.1
