-- The exponential rises, so that two numbers near one logarithm are near each other; and 0 is near log 1.
use mathlib.Core.Path.{◌≡◌, refl, subst₂}
use Prim.Native.Nat.{ℕ, suc, ◌+◌, ◌-◌, ◌*◌, ◌^◌, ◌≤◌, ◌<◌}
use native.Mathlib.Nat.{mul-pos, mul-one, mul_comm, mul-le-mul_right, lt_of_lt_of_le, zero-lt-suc}
use native.Mathlib.Omega.{arith, by_contra}
use lib.Dec.{lit<}
use lib.IntN.{ℤ, pos, negsuc, ◌+ℤ◌, ◌*ℤ◌, ◌-ℤ◌, neg_ℤ}
use lib.Ieee.{Float, binary64, of_bits, fits}
use Rattle.exact.specs.Integers.{p, n, ◌≤ᶻ◌}
use Rattle.exact.proofs.Integers.{+-parts, neg_parts, *-parts}
use Rattle.exact.specs.Units.{L, mag, Fin64}
use Rattle.exact.proofs.Units.{L_pos}
use Rattle.exact.specs.Value.{val}
use Rattle.series.specs.Exponential.{num, den}
use Rattle.series.specs.Remainder.{Above, Under}
use Rattle.series.proofs.Remainder.{above}
use Rattle.series.proofs.Powers.{pow1}
use Rattle.series.proofs.Bounds.{above_mono, under_mono, above_cancel, under_cancel}
use Rattle.series.specs.ExpNear.{AtMost, AtLeast}
use Rattle.series.specs.LogNear.{LogNear}

-- exp (a / q) ≤ x / y and z / w ≤ exp (b / q) bound exp at every fraction up to (a - b) / q; and the other way round
pub at_most : (z : ℤ) (a b q x y u w : ℕ) → 0 < q → Above a q x y → Under b q u w → p z + b ≤ a + n z → AtMost z q (x * w) (y * u)
at_most (pos k) a b q x y u w hq h g e = above_cancel b k q x y u w hq (above_mono (b + k) a q x y (omega arith) h) g
at_most (negsuc k) a b q x y u w hq h g e =
    subst₂ (λ (s t : ℕ). Under (suc k) q s t) (mul_comm u y) (mul_comm w x)
    (under_cancel a (suc k) q u w x y hq (under_mono b (a + suc k) q u w (omega arith) g) h)

pub at_least : (z : ℤ) (a b q x y u w : ℕ) → 0 < q → Under a q x y → Above b q u w → a + n z ≤ p z + b → AtLeast z q (x * w) (y * u)
at_least (pos k) a b q x y u w hq h g e = under_cancel b k q x y u w hq (under_mono a (b + k) q x y (omega arith) h) g
at_least (negsuc k) a b q x y u w hq h g e =
    subst₂ (λ (s t : ℕ). Above (suc k) q s t) (mul_comm u y) (mul_comm w x)
    (above_cancel a (suc k) q u w x y hq (above_mono (a + suc k) b q u w (omega arith) g) h)

-- the exponential rises: exp (a / q) ≤ x / y ≤ exp (b / q) only where a ≤ b
less_one : (d q x y : ℕ) → 0 < x * y → Above (suc d) q (x * y) (y * x) → ⊥
unfolding num den
less_one d q x y h a = strict d q (x * y) h (rw (pow1 (suc d), mul_comm y x) at (a 1))
  where
    strict : (d q u : ℕ) → 0 < u → (1 * (1 * q) + suc d) * u ≤ u * (1 * (1 * q)) → ⊥
    strict d q u h k = omega (arith, mul-pos (zero-lt-suc d) h)

rising : (a b q x y : ℕ) → 0 < q → 0 < x → 0 < y → Above a q x y → Under b q x y → a ≤ b
rising a b q x y hq hx hy h g = by_contra a b (λ l. less_one (a - suc b) q x y (mul-pos hx hy) (above_cancel b (suc (a - suc b)) q x y x y hq (above_mono (b + suc (a - suc b)) a q x y (omega arith) h) g))

-- exp (k / q) is above 1 for k above 0
above_one : (a k q x y : ℕ) → 0 < y → Above a q x y → Above (suc k) q y x → ⊥
unfolding num den
above_one a k q x y hy h g = strict k q x y hy (h 0) (rw (pow1 (suc k)) at (g 1))
  where
    strict : (k q x y : ℕ) → 0 < y → 1 * y ≤ x * 1 → (1 * (1 * q) + suc k) * x ≤ y * (1 * (1 * q)) → ⊥
    strict k q x y hy h g = let l : y ≤ x = omega arith in omega (arith, mul-le-mul_right q l, mul-pos (zero-lt-suc k) (lt_of_lt_of_le hy l))

pub ordered : (z w : ℤ) (q x y : ℕ) → 0 < q → 0 < x → 0 < y → AtMost z q x y → AtLeast w q x y → z ≤ᶻ w
ordered (pos a) (pos b) q x y hq hx hy h g = omega (arith, rising a b q x y hq hx hy h g)
ordered (pos a) (negsuc b) q x y hq hx hy h g = absurd (above_one a b q x y hy h g)
ordered (negsuc a) (pos b) q x y hq hx hy h g = omega arith
ordered (negsuc a) (negsuc b) q x y hq hx hy h g = omega (arith, rising (suc b) (suc a) q y x hq hy hx g h)

-- two numbers near one logarithm are within 2 * 2^-45 of each other
pub narrow : (x r s : Float) → 0 < mag x → LogNear x r → LogNear x s → val r *ℤ pos (2 ^ 45) -ℤ pos L ≤ᶻ val s *ℤ pos (2 ^ 45) +ℤ pos L
narrow x r s h R S =
    ordered (val r *ℤ pos (2 ^ 45) -ℤ pos L) (val s *ℤ pos (2 ^ 45) +ℤ pos L) (L * 2 ^ 45) (mag x) L (mul-pos L_pos (omega arith)) h L_pos R.low S.high

-- the parts of the two ends around r
pub low_parts : (v : ℤ) (k l : ℕ) → p (v *ℤ pos k -ℤ pos l) + (n v * k + l) ≡ n (v *ℤ pos k -ℤ pos l) + p v * k
low_parts v k l = omega (arith, +-parts (v *ℤ pos k) (neg_ℤ (pos l)), neg_parts (pos l), *-parts v (pos k))

pub high_parts : (v : ℤ) (k l : ℕ) → p (v *ℤ pos k +ℤ pos l) + n v * k ≡ n (v *ℤ pos k +ℤ pos l) + (p v * k + l)
high_parts v k l = omega (arith, +-parts (v *ℤ pos k) (pos l), *-parts v (pos k))

-- 0 is near log 1
one_units : (mag (of_bits binary64 0x3ff0_0000_0000_0000) ≡ L) × (val (of_bits binary64 0) ≡ pos 0) × Fin64 (of_bits binary64 0)
unfolding mag val L of_bits fits
one_units = (refl, refl, (tt, tt))

nothing : (q y : ℕ) → 0 < q → Above 0 q y y × Under 0 q y y
unfolding num den
nothing q y h = (above 0 q 0 y y h (omega arith) (omega arith), (0, omega arith))

pub at_one : LogNear (of_bits binary64 0x3ff0_0000_0000_0000) (of_bits binary64 0)
at_one =
    let q = L * 2 ^ 45 in
    let hq = mul-pos L_pos (lit< {m = 0} {n = 2 ^ 45} tt) in
    let zero_is = one_units.1 in
    record {
      fine = one_units.2;
      low = rw (one_units.0, zero_is) (subst₂ (AtMost (pos 0 *ℤ pos (2 ^ 45) -ℤ pos L) q) (mul-one L) (mul-one L) (at_most (pos 0 *ℤ pos (2 ^ 45) -ℤ pos L) 0 0 q L L 1 1 hq (nothing q L hq).0 (nothing q 1 hq).1 (omega (arith, low_parts (pos 0) (2 ^ 45) L))));
      high = rw (one_units.0, zero_is) (subst₂ (AtLeast (pos 0 *ℤ pos (2 ^ 45) +ℤ pos L) q) (mul-one L) (mul-one L) (at_least (pos 0 *ℤ pos (2 ^ 45) +ℤ pos L) 0 0 q L L 1 1 hq (nothing q L hq).1 (nothing q 1 hq).0 (omega (arith, high_parts (pos 0) (2 ^ 45) L))));
    }
