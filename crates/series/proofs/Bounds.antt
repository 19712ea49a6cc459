-- Bounds on the exponential, and how they combine. `Above p q x y` is exp (p / q) ≤ x / y, and `Under p q x y` is x / y ≤ exp (p / q).
-- Assumes nothing.
use mathlib.Core.Path.{◌≡◌, refl, ap}
use Prim.Native.Nat.{ℕ, zero, suc, ◌+◌, ◌*◌, ◌^◌, ◌≤◌, ◌<◌}
use native.Mathlib.Nat.{le_refl, le_trans, mul-pos, le_of_mul-le-mul_right, mul-le-mul_right, mul-le-mul, pow-le-pow_left, add-le-add, zero-mul, one-mul, mul-one, pow-suc, pow-zero, suc-mul}
use native.Mathlib.Omega.{arith}
use Rattle.series.specs.Exponential.{num, den}
use Rattle.series.proofs.Exponential.{den_pos, exp_add_le, exp_le_add}
use Rattle.series.proofs.Powers.{pow1}
use Rattle.series.specs.Remainder.{Above, Under}

-- products
plain_up : (E D a b x y z w : ℕ) → E * D ≤ a * b → a * y ≤ x * D → b * w ≤ z * D → E * (y * w) * D ≤ x * z * D * D
plain_up E D a b x y z w h k l = omega (arith, mul-le-mul_right (y * w) h, mul-le-mul k l)

pub above_add : (p r q x y z w : ℕ) → 0 < q → Above p q x y → Above r q z w → Above (p + r) q (x * z) (y * w)
above_add p r q x y z w hq a b n =
    le_of_mul-le-mul_right {k = den q n}
    (plain_up (num (p + r) q n) (den q n) (num p q n) (num r q n) x y z w (exp_add_le p r q hq n) (a n) (b n))
    (den_pos q hq n)

plain_down : (E D d e a b x y z w : ℕ) → a * b * D ≤ E * (d * e) → x * d ≤ a * y → z * e ≤ b * w → x * z * D * (d * e) ≤ E * (y * w) * (d * e)
plain_down E D d e a b x y z w h k l = omega (arith, mul-le-mul_right (y * w) h, mul-le-mul_right D (mul-le-mul k l))

pub under_add : (p r q x y z w : ℕ) → 0 < q → Under p q x y → Under r q z w → Under (p + r) q (x * z) (y * w)
under_add p r q x y z w hq (n, a) (m, b) = (
  n + m,
  le_of_mul-le-mul_right {k = den q n * den q m}
      (plain_down (num (p + r) q (n + m)) (den q (n + m)) (den q n) (den q m) (num p q n) (num r q m) x y z w (exp_le_add p r q hq n m) a b)
      (mul-pos (den_pos q hq n) (den_pos q hq m)),
)

-- quotients: exp (a + b) ≤ X and Y ≤ exp a give exp b ≤ X / Y; X ≤ exp (a + b) and exp a ≤ Y give X / Y ≤ exp b
plain_up_cancel : (E D A d B e x y z w : ℕ) → A * B * D ≤ E * (d * e) → E * y ≤ x * D → z * d ≤ A * w → B * (y * z) * (d * D) ≤ x * w * e * (d * D)
plain_up_cancel E D A d B e x y z w h a b = omega (arith, mul-le-mul_right (B * y * D) b, mul-le-mul_right (y * w) h, mul-le-mul_right (d * e * w) a)

pub above_cancel : (p r q x y z w : ℕ) → 0 < q → Above (p + r) q x y → Under p q z w → Above r q (x * w) (y * z)
above_cancel p r q x y z w hq a (n, b) m =
    le_of_mul-le-mul_right {k = den q n * den q (n + m)}
    (plain_up_cancel (num (p + r) q (n + m)) (den q (n + m)) (num p q n) (den q n) (num r q m) (den q m) x y z w (exp_le_add p r q hq n m) (a (n + m)) b)
    (mul-pos (den_pos q hq n) (den_pos q hq (n + m)))

plain_down_cancel : (E D A B x y z w : ℕ) → E * D ≤ A * B → x * D ≤ E * y → A * w ≤ z * D → x * w * D * D ≤ B * (y * z) * D
plain_down_cancel E D A B x y z w h a b = omega (arith, mul-le-mul_right (w * D) a, mul-le-mul_right (y * w) h, mul-le-mul_right (B * y) b)

pub under_cancel : (p r q x y z w : ℕ) → 0 < q → Under (p + r) q x y → Above p q z w → Under r q (x * w) (y * z)
under_cancel p r q x y z w hq (n, a) b = (
  n,
  le_of_mul-le-mul_right {k = den q n}
      (plain_down_cancel (num (p + r) q n) (den q n) (num p q n) (num r q n) x y z w (exp_add_le p r q hq n) a (b n))
      (den_pos q hq n),
)

-- the argument: larger, or written over another denominator
num_le : (p r q : ℕ) → p ≤ r → (n : ℕ) → num p q n ≤ num r q n
unfolding num
num_le p r q h zero = le_refl 1
num_le p r q h (suc n) = add-le-add (mul-le-mul_right (suc n * q) (num_le p r q h n)) (pow-le-pow_left h (suc n))

pub above_mono : (p r q x y : ℕ) → p ≤ r → Above r q x y → Above p q x y
above_mono p r q x y h a n = le_trans (mul-le-mul_right y (num_le p r q h n)) (a n)

pub under_mono : (p r q x y : ℕ) → p ≤ r → Under p q x y → Under r q x y
under_mono p r q x y h (n, a) = (n, le_trans a (mul-le-mul_right y (num_le p r q h n)))

-- the bound: larger, or smaller
pub above_weak : (p q x y x' y' : ℕ) → 0 < y → x * y' ≤ x' * y → Above p q x y → Above p q x' y'
above_weak p q x y x' y' hy h a n =
    le_of_mul-le-mul_right {k = y} (omega (arith, mul-le-mul_right y' (a n), mul-le-mul_right (den q n) h)) hy

pub under_weak : (p q x y x' y' : ℕ) → 0 < y → x' * y ≤ x * y' → Under p q x y → Under p q x' y'
under_weak p q x y x' y' hy h (n, a) =
    (n, le_of_mul-le-mul_right {k = y} (omega (arith, mul-le-mul_right y' a, mul-le-mul_right (den q n) h)) hy)

-- powers: exp (k a) against (exp a) ^ k
num_zero : (q n : ℕ) → num 0 q n ≡ den q n
unfolding num den
num_zero q zero = refl
num_zero q (suc n) = omega (arith, ap (λ x. x * (suc n * q)) (num_zero q n), pow-suc 0 n)

pub above_pow : (p q x y : ℕ) → 0 < q → Above p q x y → (k : ℕ) → Above (k * p) q (x ^ k) (y ^ k)
above_pow p q x y hq a zero = λ n. simp (zero-mul, pow-zero, num_zero, mul-one, one-mul) (le_refl (den q n))
above_pow p q x y hq a (suc k) = simp (suc-mul, pow-suc) (above_add (k * p) p q (x ^ k) (y ^ k) x y hq (above_pow p q x y hq a k) a)

pub under_pow : (p q x y : ℕ) → 0 < q → Under p q x y → (k : ℕ) → Under (k * p) q (x ^ k) (y ^ k)
unfolding num den
under_pow p q x y hq a zero = (0, simp (pow-zero) (le_refl 1))
under_pow p q x y hq a (suc k) = simp (suc-mul, pow-suc) (under_add (k * p) p q (x ^ k) (y ^ k) x y hq (under_pow p q x y hq a k) a)

-- 1 + h ≤ exp h
pub one_plus : (p q : ℕ) → Under p q (q + p) q
unfolding num den
one_plus p q = (1, rw (pow1 p) (omega arith))
