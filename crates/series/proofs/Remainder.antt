-- The remainder of the exponential series: one computed bound holds for every partial sum. Assumes nothing.
use Prim.Native.Nat.{ℕ, zero, suc, ◌+◌, ◌*◌, ◌^◌, ◌≤◌, ◌<◌}
use native.Mathlib.Nat.{add-zero, add-suc, le_refl, le_trans, mul-pos, zero-lt-suc, zero-add, suc-add, pow-succ', le_of_mul-le-mul_right, mul-le-mul_right}
use native.Mathlib.Omega.{arith}
use Rattle.series.specs.Exponential.{num, den}
use Rattle.series.proofs.Exponential.{den_pos}
use Rattle.series.specs.Remainder.{Above, Under}

-- lo / y ≤ exp (p / q) ≤ hi / y
pub record Within (p q lo hi y : ℕ) : Type 0 where
  pub under : Under p q lo y
  pub above : Above p q hi y

-- E_n + 2 a ^ (n + 1) / (n + 1)! ≤ x / y
abbrev pub Cap : (p q n x y : ℕ) → Type 0
Cap p q n x y = (num p q n * (suc n * q) + 2 * p ^ suc n) * y ≤ x * den q (suc n)

cap_plain : (A P T p x y D : ℕ) → 2 * p ≤ T → (A + 2 * P) * y ≤ x * D → ((A + P) * T + 2 * (p * P)) * y ≤ x * (D * T)
cap_plain A P T p x y D h c = omega (arith, mul-le-mul_right T c, mul-le-mul_right (P * y) h)

cap_step : (p q n x y : ℕ) → 2 * p ≤ suc (suc n) * q → Cap p q n x y → Cap p q (suc n) x y
unfolding num den
cap_step p q n x y h c = rw (pow-succ' p (suc n)) (cap_plain (num p q n * (suc n * q)) (p ^ suc n) (suc (suc n) * q) p x y (den q n * (suc n * q)) h c)

cap_on : (p q n x y d : ℕ) → 2 * p ≤ suc (suc n) * q → Cap p q n x y → Cap p q (d + n) x y
cap_on p q n x y zero h c = rw zero-add c
cap_on p q n x y (suc d) h c = rw suc-add (cap_step p q (d + n) x y (le_trans h (mul-le-mul_right q (omega arith))) (cap_on p q n x y d h c))

pub num_mono : (p q k d : ℕ) → num p q k * den q (k + d) ≤ num p q (k + d) * den q k
unfolding num den
num_mono p q k zero = rw add-zero (le_refl (num p q k * den q k))
num_mono p q k (suc d) = rw add-suc (omega (arith, mul-le-mul_right (suc (k + d) * q) (num_mono p q k d)))

pub above : (p q n x y : ℕ) → 0 < q → 2 * p ≤ suc (suc n) * q → Cap p q n x y → Above p q x y
unfolding den
above p q n x y hq h c m =
    let c' = cap_on p q n x y m h c in
    let s : 0 < suc (m + n) * q = mul-pos (zero-lt-suc (m + n)) hq in
    let e : num p q (m + n) * y ≤ x * den q (m + n) = le_of_mul-le-mul_right {k = suc (m + n) * q} (omega arith) s in
    le_of_mul-le-mul_right {k = den q (m + n)} (omega (arith, mul-le-mul_right y (num_mono p q m n), mul-le-mul_right (den q m) e)) (den_pos q hq (m + n))
