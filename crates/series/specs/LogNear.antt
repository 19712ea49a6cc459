-- What RULES, section 3, asks of the logarithm: within 2^-45 of the exact value, which is defined through the exponential.
use Rattle.std.specs.Prelude.{◌*◌, ◌^◌, pos, ◌+ℤ◌, ◌*ℤ◌, ◌-ℤ◌, Float}
use Rattle.exact.specs.Units.{L, mag, Fin64}
use Rattle.exact.specs.Value.{val}
use Rattle.series.specs.ExpNear.{AtMost, AtLeast}

-- exp (r - 2^-45) ≤ x ≤ exp (r + 2^-45), for a positive x, where x is `mag x` and r is `val r` units of 1 / L
pub record LogNear (x r : Float) : Type 0 where
  pub fine : Fin64 r
  pub low : AtMost (val r *ℤ pos (2 ^ 45) -ℤ pos L) (L * 2 ^ 45) (mag x) L
  pub high : AtLeast (val r *ℤ pos (2 ^ 45) +ℤ pos L) (L * 2 ^ 45) (mag x) L
