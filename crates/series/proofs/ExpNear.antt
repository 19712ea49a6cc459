-- Bounds on the exponential at a signed fraction, weakened and compared; two numbers near one exponential; and 1 is near exp 0.
use mathlib.Core.Path.{◌≡◌, refl}
use mathlib.Core.Bool.{false}
use Prim.Native.Nat.{ℕ, suc, ◌+◌, ◌-◌, ◌*◌, ◌^◌, ◌≤◌, ◌<◌}
use native.Mathlib.Nat.{le_of_mul-le-mul_right, mul-le-mul_right, mul-pos}
use native.Mathlib.Omega.{arith}
use lib.IntN.{ℤ, pos, negsuc}
use lib.Ieee.{Float, binary64, of_bits, fits}
use Rattle.exact.specs.Units.{L, mag, sgn, Fin64}
use Rattle.exact.proofs.Units.{L_pos}
use Rattle.exact.specs.Value.{val}
use Rattle.series.specs.Exponential.{num, den}
use Rattle.series.proofs.Exponential.{den_pos}
use Rattle.series.proofs.Remainder.{above}
use Rattle.series.proofs.Bounds.{above_weak, under_weak}
use Rattle.series.specs.ExpNear.{AtMost, AtLeast, ExpNear}

-- a larger bound, or a smaller one
pub at_most_weak : (z : ℤ) (q x y x' y' : ℕ) → 0 < x → 0 < y → x * y' ≤ x' * y → AtMost z q x y → AtMost z q x' y'
at_most_weak (pos p) q x y x' y' hx hy h a = above_weak p q x y x' y' hy h a
at_most_weak (negsuc k) q x y x' y' hx hy h a = under_weak (suc k) q y x y' x' hx (omega arith) a

pub at_least_weak : (z : ℤ) (q x y x' y' : ℕ) → 0 < x → 0 < y → x' * y ≤ x * y' → AtLeast z q x y → AtLeast z q x' y'
at_least_weak (pos p) q x y x' y' hx hy h a = under_weak p q x y x' y' hy h a
at_least_weak (negsuc k) q x y x' y' hx hy h a = above_weak (suc k) q y x y' x' hx (omega arith) a

-- a lower bound is at most an upper one
plain : (x y x' y' d n : ℕ) → x * d ≤ n * y → n * y' ≤ x' * d → x * y' * d ≤ x' * y * d
plain x y x' y' d n h k = omega (arith, mul-le-mul_right y' h, mul-le-mul_right y k)

pub ordered : (z : ℤ) (q x y x' y' : ℕ) → 0 < q → AtLeast z q x y → AtMost z q x' y' → x * y' ≤ x' * y
ordered (pos p) q x y x' y' hq (n, a) b = le_of_mul-le-mul_right {k = den q n} (plain x y x' y' (den q n) (num p q n) a (b n)) (den_pos q hq n)
ordered (negsuc k) q x y x' y' hq a (n, b) =
    le_of_mul-le-mul_right {k = den q n} (omega (arith, plain y' x' y x (den q n) (num (suc k) q n) b (a n))) (den_pos q hq n)

-- two numbers near one exponential are near each other
narrow_plain : (a b l p m o : ℕ) → 0 < l → 0 < p → a * p * (l * m) ≤ b * p * (l * o) → a * m ≤ b * o
narrow_plain a b l p m o hl hp h = le_of_mul-le-mul_right {k = p * l} (omega arith) (mul-pos hp hl)

pub narrow : (x r s : Float) → ExpNear x r → ExpNear x s → mag r * (2 ^ 45 - 1) ≤ mag s * (2 ^ 45 + 1)
narrow x r s R S =
    narrow_plain (mag r) (mag s) L (2 ^ 45) (2 ^ 45 - 1) (2 ^ 45 + 1) L_pos (omega arith)
    (ordered (val x) L (mag r * 2 ^ 45) (L * (2 ^ 45 + 1)) (mag s * 2 ^ 45) (L * (2 ^ 45 - 1)) L_pos R.below S.above)

-- 1 is near exp 0
cap_zero : (l m o : ℕ) → m ≤ o → (1 * (1 * l) + 2 * 0) * (l * m) ≤ l * o * (1 * (1 * l))
cap_zero l m o h = omega (arith, mul-le-mul_right (l * l) h)

one_units : (mag (of_bits binary64 0x3ff0_0000_0000_0000) ≡ L) × (val (of_bits binary64 0) ≡ pos 0)
unfolding mag val L of_bits
one_units = (refl, refl)

one_fine : Fin64 (of_bits binary64 0x3ff0_0000_0000_0000) × (sgn (of_bits binary64 0x3ff0_0000_0000_0000) ≡ false)
unfolding of_bits fits
one_fine = ((tt, tt), refl)

pub at_zero : ExpNear (of_bits binary64 0) (of_bits binary64 0x3ff0_0000_0000_0000)
unfolding num den
at_zero = record {
  fine = one_fine.0;
  sign = one_fine.1;
  above = rw (one_units.0, one_units.1) (above 0 L 0 (L * 2 ^ 45) (L * (2 ^ 45 - 1)) L_pos (omega arith) (cap_zero L (2 ^ 45 - 1) (2 ^ 45) (omega arith)));
  below = rw (one_units.0, one_units.1) (0, omega arith);
}
