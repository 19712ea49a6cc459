-- What lies strictly on one side of the midpoint of two neighbouring binary64 values is rounded to that side. Assumes nothing.
use mathlib.Core.Path.{◌≡◌, refl, sym, ap, ◌∙◌, subst}
use mathlib.Core.Logic.{inl, inr}
use Prim.Native.Nat.{ℕ, suc, ◌+◌, ◌-◌, ◌*◌, ◌/◌, ◌^◌, ◌≤◌, ◌<◌}
use native.Mathlib.Nat.{le_trans, le_of_eq, lt_of_lt_of_le, lt_irrefl, le_of_suc-le-suc, eq-or-lt_of_le, mul-pos, mul-le-mul_right, mul-lt-mul_of_pos_right, lt_of_mul-lt-mul_right, le-div_iff_mul-le, div-lt_iff_lt-mul, eq_of_mul-eq-mul_right}
use native.Mathlib.Omega.{arith, sub_cases, by_contra}
use mathlib.Core.Bool.{Bool, true, false, cond}
use lib.IntN.{ℤ}
use lib.Dec.{T}
use lib.Pow.{pow-add, pow_pos, pow_mono}
use lib.Ieee.{Float, nan, inf, fin, binary64, up, down, size, round, le, fits, of_bits, to_bits, hid, top}
use lib.Ieee.Bits.{of_bits-to_bits}
use lib.Ieee.Digits.{size-lt, size-le, size_reaches}
use lib.Ieee.Fits.{down_pos}
use lib.Ieee.Positive.{positive, between, le→cross}
use lib.Ieee.Exact.{HasValue, round_exact}
use lib.Ieee.Order.{drop, kept, round_mono, le_of_values}
use lib.Ieee.Scale.{grid, round_val}
use Rattle.exact.specs.Rounding.{Near}
use Rattle.exact.proofs.Rounding.{grid_near}
use Rattle.exact.specs.Units.{L, mag, sgn, Fin64}
use Rattle.exact.proofs.Units.{mag_exact}

-- ---- a finite value is told by its sign and its units
pattern_of : (s : Bool) (m : ℕ) (e : ℤ) → to_bits binary64 (fin s m e) ≡ cond s (top binary64) 0 + (size (mag (fin s m e)) - 53) * hid binary64 + mag (fin s m e) / 2 ^ (size (mag (fin s m e)) - 53)
unfolding to_bits mag L
pattern_of s m e = refl

pub same_units : (x y : Float) → Fin64 x → Fin64 y → sgn x ≡ sgn y → mag x ≡ mag y → x ≡ y
same_units nan y f g s m = absurd f.0
same_units (inf t) y f g s m = absurd f.0
same_units (fin t a e) nan f g s m = absurd g.0
same_units (fin t a e) (inf u) f g s m = absurd g.0
same_units (fin t a e) (fin u b d) f g s m =
    sym (of_bits-to_bits binary64 (fin t a e) f.1)
    ∙ ap (of_bits binary64)
    (pattern_of t a e
    ∙ ap (λ (z : Bool). cond z (top binary64) 0 + (size (mag (fin t a e)) - 53) * hid binary64 + mag (fin t a e) / 2 ^ (size (mag (fin t a e)) - 53)) s
    ∙ ap (λ (z : ℕ). cond u (top binary64) 0 + (size z - 53) * hid binary64 + z / 2 ^ (size z - 53)) m
    ∙ sym (pattern_of u b d))
    ∙ of_bits-to_bits binary64 (fin u b d) g.1

-- two values above zero, each at most the other
pub le_both : (x y : Float) → T (positive x) → T (fits binary64 x) → T (fits binary64 y) → T (le x y) → T (le y x) → x ≡ y
le_both x y p f g h k = go x y p (between x y x p p h k) f g h k
  where
    cross : (a b c d u v : ℕ) → 0 < c → 0 < d → u * c ≡ a * L → v * d ≡ b * L → a * d ≤ b * c → b * c ≤ a * d → u ≡ v
    cross a b c d u v C D p q h k =
        let e : a * d ≡ b * c = omega arith in
        eq_of_mul-eq-mul_right (c * d) (mul-pos C D) u v (omega (arith, ap (λ z. z * d) p, ap (λ z. z * c) q, ap (λ z. z * L) e))

    go : (x y : Float) → T (positive x) → T (positive y) → T (fits binary64 x) → T (fits binary64 y) → T (le x y) → T (le y x) → x ≡ y
    go nan y p q f g h k = absurd p
    go (inf s) y p q f g h k = absurd p
    go (fin true m e) y p q f g h k = absurd p
    go (fin false m e) nan p q f g h k = absurd q
    go (fin false m e) (inf t) p q f g h k = absurd q
    go (fin false m e) (fin true n d) p q f g h k = absurd q
    go (fin false m e) (fin false n d) p q f g h k =
        same_units (fin false m e) (fin false n d) (tt, f) (tt, g) refl
        (cross (m * up e) (n * up d) (down e) (down d) (mag (fin false m e)) (mag (fin false n d)) (down_pos e) (down_pos d) (mag_exact false m e f) (mag_exact false n d g)
        (le→cross (fin false m e) (fin false n d) p q h) (le→cross (fin false n d) (fin false m e) q p k))

either : (a b : ℕ) (G : Type 0) → (a ≤ b → G) → (b < a → G) → G
either a b G f g = sub_cases a (suc b) G (λ h e. g h) (λ h e. f' h)
  where
    f' : a ≤ suc b → G
    f' h = elim (eq-or-lt_of_le h) [ inl e ↦ g (le_of_eq (sym e)) | inr l ↦ f (le_of_suc-le-suc l) ]

-- ---- a number of 53 digits times 2 ^ j units is its own rounding
fits_at : (n i j : ℕ) → i ≤ 98 → j ≤ 2000 → n < 2 ^ i * 2 ^ j → n < 2 ^ 2098
fits_at n i j I J h = lt_of_lt_of_le h (le_trans (le_of_eq (sym (pow-add 2 i j))) (pow_mono {i = i + j} {j = 2098} (omega arith)))

pub exact_at : (p j : ℕ) → j ≤ 2000 → p < 2 ^ 53 → HasValue (round binary64 false (p * 2 ^ j) (2 ^ 1074)) false (p * 2 ^ j) (2 ^ 1074)
exact_at p j J h = round_exact binary64 false (p * 2 ^ j) (2 ^ 1074) p j (pow_pos 1074) h (fits_at (p * 2 ^ j) 53 j (omega arith) J (mul-lt-mul_of_pos_right h (pow_pos j))) refl

-- ---- the neighbours q and q + 1, times 2 ^ j units, with q of 53 digits
module _ (a c q j : ℕ) (C : 0 < c) (Q : 2 ^ 52 ≤ q) (R : q < 2 ^ 53) (J : j ≤ 2000) where
  w : ℕ
  w = a * 2 ^ 1074 / c

  -- where w has 53 + j digits, the last j are dropped
  near_at : size w ≡ 53 + j → (k : ℕ) × (grid binary64 a c ≡ k * 2 ^ j) × Near (2 * (k * 2 ^ j * c)) (2 * (a * 2 ^ 1074)) (c * 2 ^ j)
  unfolding w
  near_at e =
      let d : drop 53 (a * 2 ^ 1074) c ≡ j = ap (λ z. z - 53) e ∙ gone j in
      (kept 53 (a * 2 ^ 1074) c, ap (λ z. kept 53 (a * 2 ^ 1074) c * 2 ^ z) d, subst (λ z. Near (2 * (kept 53 (a * 2 ^ 1074) c * 2 ^ z * c)) (2 * (a * 2 ^ 1074)) (c * 2 ^ z)) d (grid_near binary64 a c C))
    where
      gone : (j : ℕ) → 53 + j - 53 ≡ j
      gone j = omega arith

  small_size : size w ≤ 52 + j → a * 2 ^ 1074 ≤ q * 2 ^ j * c
  unfolding w
  small_size h =
      let l : w < 2 ^ 52 * 2 ^ j = rw (pow-add 2 52 j) at (lt_of_lt_of_le (size-lt w) (pow_mono h)) in
      let m : a * 2 ^ 1074 < 2 ^ 52 * 2 ^ j * c = (div-lt_iff_lt-mul C).0 l in
      go (a * 2 ^ 1074) (2 ^ j) m
    where
      go : (n P : ℕ) → n < 2 ^ 52 * P * c → n ≤ q * P * c
      go n P h = omega (arith, mul-le-mul_right (P * c) Q)

  large_size : 53 + j < size w → suc q * 2 ^ j * c ≤ a * 2 ^ 1074
  unfolding w
  large_size h =
      let l : 2 ^ 53 * 2 ^ j ≤ w = rw (pow-add 2 53 j) at (size_reaches w (53 + j) h) in
      go (a * 2 ^ 1074) (2 ^ j) ((le-div_iff_mul-le C).0 l)
    where
      go : (n P : ℕ) → 2 ^ 53 * P * c ≤ n → suc q * P * c ≤ n
      go n P h = omega (arith, mul-le-mul_right (P * c) R)

  value_at : (k : ℕ) → grid binary64 a c ≡ k * 2 ^ j → k < 2 ^ 54 → HasValue (round binary64 false a c) false (k * 2 ^ j) (2 ^ 1074)
  value_at k e h =
      subst (λ z. HasValue (round binary64 false a c) false z (2 ^ 1074)) e
      (round_val binary64 a c (subst (λ z. z < 2 ^ 2098) (sym e) (fits_at (k * 2 ^ j) 54 j (omega arith) J (mul-lt-mul_of_pos_right h (pow_pos j)))))

  -- below the midpoint of q and q + 1
  pub below_mid : 2 * (a * 2 ^ 1074) < (2 * q + 1) * 2 ^ j * c → T (le (round binary64 false a c) (round binary64 false (q * 2 ^ j) (2 ^ 1074)))
  unfolding w
  below_mid h = either (size w) (52 + j) _ (λ l. round_mono binary64 a c (q * 2 ^ j) (2 ^ 1074) C (pow_pos 1074) (small_size l)) at
    where
      under : (n P : ℕ) → 2 * n < (2 * q + 1) * P * c → n < 2 ^ 53 * P * c
      under n P h = omega (arith, mul-le-mul_right (P * c) R)

      most : (k n P : ℕ) → 0 < P → 2 * n < (2 * q + 1) * P * c → 2 * (k * P * c) ≤ 2 * n + c * P → k ≤ q
      most k n P O h l = le_of_suc-le-suc (lt_of_mul-lt-mul_right (P * c) (omega arith))

      at : 52 + j < size w → T (le (round binary64 false a c) (round binary64 false (q * 2 ^ j) (2 ^ 1074)))
      at l =
          let u : w < 2 ^ 53 * 2 ^ j = (div-lt_iff_lt-mul C).1 (under (a * 2 ^ 1074) (2 ^ j) h) in
          let v : size w ≤ 53 + j = size-le w (53 + j) (rw (pow-add 2 53 j) u) in
          let r = near_at (omega arith) in
          let k : r.0 ≤ q = most r.0 (a * 2 ^ 1074) (2 ^ j) (pow_pos j) h r.2.0 in
          le_of_values (round binary64 false a c) (round binary64 false (q * 2 ^ j) (2 ^ 1074)) (r.0 * 2 ^ j) (2 ^ 1074) (q * 2 ^ j) (2 ^ 1074) (pow_pos 1074) (pow_pos 1074)
          (value_at r.0 r.1 (omega arith)) (exact_at q j J R) (mul-le-mul_right (2 ^ 1074) (mul-le-mul_right (2 ^ j) k))

  -- above it
  pub above_mid : suc q < 2 ^ 53 → (2 * q + 1) * 2 ^ j * c < 2 * (a * 2 ^ 1074) → T (le (round binary64 false (suc q * 2 ^ j) (2 ^ 1074)) (round binary64 false a c))
  unfolding w
  above_mid S h = either (size w) (53 + j) _ at (λ l. round_mono binary64 (suc q * 2 ^ j) (2 ^ 1074) a c (pow_pos 1074) C (large_size l))
    where
      over : (n P : ℕ) → (2 * q + 1) * P * c < 2 * n → 2 ^ 52 * P * c ≤ n
      over n P h = omega (arith, mul-le-mul_right (P * c) Q)

      least : (k n P : ℕ) → 0 < P → (2 * q + 1) * P * c < 2 * n → 2 * n ≤ 2 * (k * P * c) + c * P → suc q ≤ k
      least k n P O h l = lt_of_mul-lt-mul_right (P * c) (omega arith)

      few : (k n P : ℕ) → 0 < P → n < 2 ^ 53 * P * c → 2 * (k * P * c) ≤ 2 * n + c * P → k < 2 ^ 54
      few k n P O h l = lt_of_mul-lt-mul_right (P * c) (omega (arith, mul-pos O C))

      at : size w ≤ 53 + j → T (le (round binary64 false (suc q * 2 ^ j) (2 ^ 1074)) (round binary64 false a c))
      at l =
          let u : 2 ^ 52 * 2 ^ j ≤ w = (le-div_iff_mul-le C).1 (over (a * 2 ^ 1074) (2 ^ j) h) in
          let v : 52 + j < size w = by_contra (suc (52 + j)) (size w) (λ g. lt_irrefl w (lt_of_lt_of_le (size-lt w) (le_trans (pow_mono {i = size w} {j = 52 + j} (omega arith)) (rw (pow-add 2 52 j) u)))) in
          let t : w < 2 ^ 53 * 2 ^ j = rw (pow-add 2 53 j) at (lt_of_lt_of_le (size-lt w) (pow_mono l)) in
          let r = near_at (omega arith) in
          let k : suc q ≤ r.0 = least r.0 (a * 2 ^ 1074) (2 ^ j) (pow_pos j) h r.2.1 in
          le_of_values (round binary64 false (suc q * 2 ^ j) (2 ^ 1074)) (round binary64 false a c) (suc q * 2 ^ j) (2 ^ 1074) (r.0 * 2 ^ j) (2 ^ 1074) (pow_pos 1074) (pow_pos 1074)
          (exact_at (suc q) j J S) (value_at r.0 r.1 (few r.0 (a * 2 ^ 1074) (2 ^ j) (pow_pos j) ((div-lt_iff_lt-mul C).0 t) r.2.0)) (mul-le-mul_right (2 ^ 1074) (mul-le-mul_right (2 ^ j) k))
