-- The term after the last one that is summed, and what it decides. Assumes nothing.
use mathlib.Core.Path.{◌≡◌, ap}
use Prim.Native.Nat.{ℕ, zero, suc, ◌+◌, ◌*◌, ◌^◌, ◌≤◌}
use native.Mathlib.Nat.{le_trans, le_of_eq, mul-le-mul, mul-le-mul_right}
use native.Mathlib.Omega.{arith}
use lib.Ieee.{Float, unlike}
use Rattle.exact.specs.Units.{L, mag, sgn, Fin64}
use Rattle.exact.proofs.Units.{L_pos}
use Rattle.exact.specs.Sums.{pl, mi}
use Rattle.series.specs.Sine.{odd, den}
use Rattle.series.specs.SinNear.{SinNear}
use Rattle.series.proofs.SinSure.{Sure, sure}

-- (2 n + 1)!
unfoldable pub factorial : ℕ → ℕ
factorial zero = 1
factorial (suc n) = factorial n * ((2 * n + 2) * (2 * n + 3))

den_is : (q n : ℕ) → den q n ≡ factorial n * odd q n
unfolding den odd factorial
den_is q zero = omega arith
den_is q (suc n) = step_plain (den q n) (factorial n) (odd q n) ((2 * n + 2) * (2 * n + 3)) (q * q) (den_is q n)
  where
    step_plain : (d f o r s : ℕ) → d ≡ f * o → d * (r * s) ≡ f * r * (o * s)
    step_plain d f o r s e = omega (arith, ap (λ v. v * (r * s)) e)

odd_le : (g p q n : ℕ) → p ≤ g * q → odd p n ≤ odd g n * odd q n
unfolding odd
odd_le g p q zero h = h
odd_le g p q (suc n) h = le_trans (mul-le-mul (odd_le g p q n h) (mul-le-mul h h)) (le_of_eq (apart (odd g n) (odd q n) g q))
  where
    apart : (a b g q : ℕ) → a * b * (g * q * (g * q)) ≡ a * (g * g) * (b * (q * q))
    apart a b g q = omega arith

next_plain : (R o b F d E c : ℕ) → R ≤ b * o → b * E ≤ c * F → d ≡ F * o → R * E ≤ c * d
next_plain R o b F d E c h k e = rw e (omega (arith, mul-le-mul_right E h, mul-le-mul_right o k))

-- up to g the n-th term is at most c / E, where it is so at g
pub next_small : (g p q n E c : ℕ) → p ≤ g * q → odd g n * E ≤ c * factorial n → odd p n * E ≤ c * den q n
next_small g p q n E c h k = next_plain (odd p n) (odd q n) (odd g n) (factorial n) (den q n) E c (odd_le g p q n h) k (den_is q n)

-- one sum of the series decides how near r is
pub near_by : (x r : Float) (n : ℕ) → Fin64 r → Sure (mag x) L (pl (unlike (sgn x) (sgn r)) (mag r)) (mi (unlike (sgn x) (sgn r)) (mag r)) L (2 ^ 45) n → SinNear x r
near_by x r n f s = record { fine = f; near = λ k h. sure (mag x) L (pl (unlike (sgn x) (sgn r)) (mag r)) (mi (unlike (sgn x) (sgn r)) (mag r)) L (2 ^ 45) k n L_pos s h }
