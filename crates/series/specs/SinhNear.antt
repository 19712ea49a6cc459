-- What RULES, section 3, asks of the hyperbolic sine: within 2^-45 times (1 + the size of the exact value). The exact value is
-- sinh a = (E - 1 / E) / 2 with E = exp a (NIST DLMF 4.28.1), which grows with E; sinh (- a) = - sinh a.
use Rattle.std.specs.Prelude.{◌≡◌, ℕ, ◌+◌, ◌-◌, ◌*◌, ◌^◌, ◌≤◌, ◌<◌, Float}
use Rattle.exact.specs.Units.{L, mag, sgn, Fin64}
use Rattle.series.specs.Remainder.{Above, Under}

-- sinh (p / q) ≤ v / w: some x / y is at least E, and (x / y - y / x) / 2 ≤ v / w
pub record SinhAtMost (p q v w : ℕ) : Type 0 where
  pub x : ℕ
  pub y : ℕ
  pub positive : 0 < y
  pub bound : Above p q x y
  pub value : x * x * w ≤ y * y * w + 2 * v * (x * y)

-- v / w ≤ sinh (p / q): some x / y is at most E, and v / w ≤ (x / y - y / x) / 2
pub record SinhAtLeast (p q v w : ℕ) : Type 0 where
  pub x : ℕ
  pub y : ℕ
  pub positive : 0 < y
  pub bound : Under p q x y
  pub value : 2 * v * (x * y) + y * y * w ≤ x * x * w

-- r has x's sign, and with s = sinh |x| the size of r is at most s + 2^-45 (1 + s) and at least s - 2^-45 (1 + s):
-- (|r| - 2^-45) / (1 + 2^-45) ≤ s ≤ (|r| + 2^-45) / (1 - 2^-45); a lower bound below 0 is 0
pub record SinhNear (x r : Float) : Type 0 where
  pub fine : Fin64 r
  pub sign : sgn r ≡ sgn x
  pub above : SinhAtMost (mag x) L (mag r * 2 ^ 45 + L) (L * (2 ^ 45 - 1))
  pub below : SinhAtLeast (mag x) L (mag r * 2 ^ 45 - L) (L * (2 ^ 45 + 1))
