-- What RULES, section 3, asks of the exponential: within 2^-45 of the exact value, times that value. The exact value at a signed
-- fraction z / q is the series of NIST DLMF 4.2.19, and at a negative one the reciprocal.
use Rattle.std.specs.Prelude.{◌≡◌, false, ℕ, suc, ◌+◌, ◌-◌, ◌*◌, ◌^◌, ℤ, pos, negsuc, Float}
use Rattle.exact.specs.Units.{L, mag, sgn, Fin64}
use Rattle.exact.specs.Value.{val}
use Rattle.series.specs.Remainder.{Above, Under}

-- exp (z / q) ≤ x / y
abbrev pub AtMost : (z : ℤ) (q x y : ℕ) → Type 0
AtMost (pos p) q x y = Above p q x y
AtMost (negsuc k) q x y = Under (suc k) q y x

-- x / y ≤ exp (z / q)
abbrev pub AtLeast : (z : ℤ) (q x y : ℕ) → Type 0
AtLeast (pos p) q x y = Under p q x y
AtLeast (negsuc k) q x y = Above (suc k) q y x

-- r is positive and within 2^-45 exp x of exp x: r / (1 + 2^-45) ≤ exp x ≤ r / (1 - 2^-45), where x is `val x` and r is `mag r` units
-- of 1 / L, which is 2^-1074
pub record ExpNear (x r : Float) : Type 0 where
  pub fine : Fin64 r
  pub sign : sgn r ≡ false
  pub above : AtMost (val x) L (mag r * 2 ^ 45) (L * (2 ^ 45 - 1))
  pub below : AtLeast (val x) L (mag r * 2 ^ 45) (L * (2 ^ 45 + 1))
