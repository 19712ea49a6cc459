-- Zero's root is itself, with its sign. Assumes nothing.
use mathlib.Core.Path.{◌≡◌, refl, sym, ap, ◌∙◌, subst}
use mathlib.Core.Bool.{Bool, true, false, ◌||◌}
use Prim.Native.Nat.{ℕ, zero, suc, ◌+◌, ◌*◌, ◌/◌, ◌≤◌, ◌<◌}
use native.Mathlib.Nat.{le_trans, le_of_eq, lt_of_lt_of_le, lt_irrefl, zero-lt-suc, mul-pos, mul-one, zero-div, eq_of_mul-eq-mul_right, zero-mul}
use native.Mathlib.Omega.{arith}
use lib.Dec.{T, ltb, lt→ltb, eqb-zero-suc, eqb-suc-zero, lit<}
use lib.IntN.{ℤ, pos}
use lib.Arith.{le→nltb}
use lib.Ieee.{Float, nan, inf, fin, binary64, up, down, size, round, below, level, le, fits}
use lib.Ieee.Bits.{is_false}
use lib.Ieee.Fits.{down_pos}
use lib.Ieee.Order.{round_mono}
use lib.Ieee.Scale.{round_same}
use Rattle.exact.proofs.Midpoints.{same_units}
use Rattle.exact.specs.Units.{L, mag, sgn, Fin64}
use Rattle.exact.proofs.Units.{L_pos, mag_exact}
use Rattle.exact.specs.RootOf.{Rooted, root_in, floor_root, sqrt_of}

-- +0 and -0
pub zero_of : Bool → Float
zero_of s = fin s 0 (pos 0)

round_zero : (s : Bool) (c : ℕ) → 0 < c → round binary64 s 0 c ≡ zero_of s
unfolding round zero_of
round_zero true c C = round_same binary64 true 0 c 0 1 C (lit< tt) (sym (zero-mul c))
round_zero false c C = round_same binary64 false 0 c 0 1 C (lit< tt) (sym (zero-mul c))

zero_mag : (s : Bool) → mag (zero_of s) ≡ 0
unfolding zero_of mag
zero_mag s = ap (λ y. y / 1) (zero-mul L) ∙ zero-div 1

zero_fine : (s : Bool) → Fin64 (zero_of s)
unfolding zero_of fits
zero_fine s = (tt, tt)

or_l : (a b : Bool) → T a → T (a || b)
or_l true b h = tt
or_l false b h = absurd h

-- either zero is at most what +0 is at most
zero_below : (s : Bool) (y : Float) → T (le (zero_of false) y) → T (le (zero_of s) y)
unfolding le zero_of
zero_below s nan h = absurd h
zero_below s (inf t) h = h
zero_below s (fin t m e) h = go s t (0 * down e) (m * up e * 1) (zero-mul (down e)) h
  where
    at : (s t : Bool) (B : ℕ) → T (below false 0 t B || level false 0 t B) → T (below s 0 t B || level s 0 t B)
    at false t B h = h
    at true t zero h = or_zero t
      where
        or_zero : (t : Bool) → T (below true 0 t 0 || level true 0 t 0)
        or_zero true = tt
        or_zero false = tt
    at true false (suc n) h = or_l (ltb 0 (0 + suc n)) (level true 0 false (suc n)) (lt→ltb 0 (0 + suc n) (omega arith))
    at true true (suc n) h = absurd (rw (eqb-zero-suc n) at h)

    go : (s t : Bool) (A B : ℕ) → A ≡ 0 → T (below false A t B || level false A t B) → T (below s A t B || level s A t B)
    go s t A B e h = subst (λ z. T (below s z t B || level s z t B)) (sym e) (at s t B (subst (λ z. T (below false z t B || level false z t B)) e h))

zero_le : (s : Bool) (a c : ℕ) → 0 < c → T (le (zero_of s) (round binary64 false a c))
zero_le s a c C = zero_below s (round binary64 false a c) (subst (λ z. T (le z (round binary64 false a c))) (round_zero false 1 (lit< tt)) (round_mono binary64 0 1 a c (lit< tt) C (rw (zero-mul c) zero_le_any)))
  where
    zero_le_any : 0 ≤ a * 1
    zero_le_any = omega arith

both_zero : (s t : Bool) → T (le (zero_of s) (zero_of t))
unfolding le zero_of
both_zero true true = tt
both_zero true false = tt
both_zero false true = tt
both_zero false false = tt

pub zero_rooted : (x : Float) → mag x ≡ 0 → Rooted x (zero_of (sgn x))
unfolding zero_of
zero_rooted x z =
    record {
      fine = zero_fine (sgn x);
      sign = refl;
      above = λ a c C h. rw (none a c (rw z at h), round_zero false c C) (both_zero false (sgn x));
      below = λ a c C h. zero_le (sgn x) a c C;
    }
  where
    none : (a c : ℕ) → a * a * L ≤ 0 * (c * c) → a ≡ 0
    none zero c h = refl
    none (suc a) c h = absurd (lt_irrefl 0 (lt_of_lt_of_le (mul-pos (mul-pos (zero-lt-suc a) (zero-lt-suc a)) L_pos) (le_trans h (le_of_eq (zero-mul (c * c))))))

pub zero_sqrt : (x : Float) → mag x ≡ 0 → sqrt_of x ≡ zero_of (sgn x)
unfolding sqrt_of floor_root root_in size
zero_sqrt x z = rw (z, zero-mul L) (round_zero (sgn x) (2 * L) (mul-pos (lit< tt) L_pos))

pub mag_zero : (s : Bool) (m : ℕ) (e : ℤ) → T (fits binary64 (fin s m e)) → m * up e * 1 ≡ 0 → mag (fin s m e) ≡ 0
mag_zero s m e f z = eq_of_mul-eq-mul_right (down e) (down_pos e) (mag (fin s m e)) 0 (mag_exact s m e f ∙ ap (λ y. y * L) (sym (mul-one (m * up e)) ∙ z) ∙ zero-mul L ∙ sym (zero-mul (down e)))

zero_only : (r : Float) → Fin64 r → T (le r (zero_of false)) → T (le (zero_of false) r) → mag r ≡ 0
unfolding le zero_of
zero_only nan f h k = absurd h
zero_only (inf s) f h k = absurd f.0
zero_only (fin s m e) f h k = mag_zero s m e f.1 (size_zero s (m * up e * 1) (0 * down e) (zero-mul (down e)) h k)
  where
    below_zero : (A : ℕ) → T (ltb A 0 || level false A false 0) → A ≡ 0
    below_zero zero h = refl
    below_zero (suc A) h = absurd (rw (is_false (ltb (suc A) 0) (le→nltb (suc A) 0 (omega arith)), eqb-suc-zero A) at h)

    above_zero : (A : ℕ) → T (level false 0 true A) → A ≡ 0
    above_zero zero h = refl
    above_zero (suc A) h = absurd (rw (eqb-zero-suc A) at h)

    size_zero : (s : Bool) (A B : ℕ) → B ≡ 0 → T (below s A false B || level s A false B) → T (below false B s A || level false B s A) → A ≡ 0
    size_zero false A B e h k = below_zero A (subst (λ z. T (ltb A z || level false A false z)) e h)
    size_zero true A B e h k = above_zero A (subst (λ z. T (level false z true A)) e k)

pub zero_one : (x r : Float) → mag x ≡ 0 → Rooted x r → zero_of (sgn x) ≡ r
unfolding zero_of
zero_one x r z R =
    let up_to_lem = rw (round_zero false 1 (lit< tt)) at (R.below 0 1 (lit< tt) (rw z (omega arith))) in
    let from = rw (round_zero false 1 (lit< tt)) at (R.above 0 1 (lit< tt) (rw z (omega arith))) in
    same_units (zero_of (sgn x)) r (zero_fine (sgn x)) R.fine (sym R.sign) (zero_mag (sgn x) ∙ sym (zero_only r R.fine up_to_lem from))

pub sqrt_zero : (x : Float) → Fin64 x → mag x ≡ 0 → x ≡ sqrt_of x
unfolding zero_of
sqrt_zero x f z = same_units x (zero_of (sgn x)) f (zero_fine (sgn x)) refl (z ∙ sym (zero_mag (sgn x))) ∙ sym (zero_sqrt x z)
