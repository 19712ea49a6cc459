-- Bounds on the exponential of a fraction that is written over another denominator. Assumes nothing.
use mathlib.Core.Path.{◌≡◌, ap}
use Prim.Native.Nat.{ℕ, zero, suc, ◌*◌, ◌^◌, ◌<◌}
use native.Mathlib.Nat.{mul-le-mul_right, le_of_mul-le-mul_right, pow-suc, pow-zero, one-le-pow}
use native.Mathlib.Omega.{arith}
use Rattle.series.specs.Exponential.{num, den}
use Rattle.series.specs.Remainder.{Above, Under}

pow_mul : (p c n : ℕ) → (p * c) ^ n ≡ p ^ n * c ^ n
pow_mul p c zero = simp (pow-zero)
pow_mul p c (suc n) = simp (pow-suc) (omega (arith, ap (λ x. x * (p * c)) (pow_mul p c n)))

den_scale : (q c n : ℕ) → den (q * c) n ≡ den q n * c ^ n
unfolding den
den_scale q c zero = simp (pow-zero)
den_scale q c (suc n) = rw pow-suc (omega (arith, ap (λ x. x * (suc n * (q * c))) (den_scale q c n)))

num_scale : (p q c n : ℕ) → num (p * c) (q * c) n ≡ num p q n * c ^ n
unfolding num
num_scale p q c zero = simp (pow-zero)
num_scale p q c (suc n) = omega (arith, ap (λ x. x * (suc n * (q * c))) (num_scale p q c n), pow_mul p c (suc n), ap (λ x. num p q n * (suc n * q) * x) (pow-suc c n), ap (λ x. p ^ suc n * x) (pow-suc c n))

pub above_scale : (p q c x y : ℕ) → Above p q x y → Above (p * c) (q * c) x y
above_scale p q c x y a n = rw (num_scale p q c n, den_scale q c n) (omega (arith, mul-le-mul_right (c ^ n) (a n)))

pub above_unscale : (p q c x y : ℕ) → 0 < c → Above (p * c) (q * c) x y → Above p q x y
above_unscale p q c x y hc a n = le_of_mul-le-mul_right {k = c ^ n} (omega (arith, rw (num_scale p q c n, den_scale q c n) at (a n))) (one-le-pow n c hc)

pub under_scale : (p q c x y : ℕ) → Under p q x y → Under (p * c) (q * c) x y
under_scale p q c x y (n, a) = (n, rw (num_scale p q c n, den_scale q c n) (omega (arith, mul-le-mul_right (c ^ n) a)))

pub under_unscale : (p q c x y : ℕ) → 0 < c → Under (p * c) (q * c) x y → Under p q x y
under_unscale p q c x y hc (n, a) = (n, le_of_mul-le-mul_right {k = c ^ n} (omega (arith, rw (num_scale p q c n, den_scale q c n) at a)) (one-le-pow n c hc))
