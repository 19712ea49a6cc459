-- What RULES, section 3, asks of the sine: within 2^-45 of the exact value. The exact value of the sine at a is the series of NIST
-- DLMF 4.19.1: where its terms fall, the sum up to any of them is within the next term of it.
use Rattle.std.specs.Prelude.{ℕ, suc, ◌+◌, ◌*◌, ◌^◌, Float}
use Rattle.std.specs.Float.Ieee.{unlike}
use Rattle.exact.specs.Rounding.{Near}
use Rattle.exact.specs.Units.{L, mag, sgn, Fin64}
use Rattle.exact.specs.Sums.{pl, mi}
use Rattle.series.specs.Sine.{odd, ratio, den, added, taken, Falls}

-- (u - v) / y is within 1 / w, and the next term, of the sum of the terms 0 to n; all over den q (n + 1), which is den q n * ratio q n
abbrev pub Close : (p q u v y w n : ℕ) → Type 0
Close p q u v y w n = Near ((u * den q (suc n) + taken p q n * ratio q n * y) * w) ((v * den q (suc n) + added p q n * ratio q n * y) * w) ((den q (suc n) + odd p (suc n) * w) * y)

-- |r - sin x| ≤ 2^-45: x is `mag x` and r is `mag r` units of 1 / L, and r counts as negative where its sign is not x's
pub record SinNear (x r : Float) : Type 0 where
  pub fine : Fin64 r
  pub near : (n : ℕ) → Falls (mag x) L n → Close (mag x) L (pl (unlike (sgn x) (sgn r)) (mag r)) (mi (unlike (sgn x) (sgn r)) (mag r)) L (2 ^ 45) n
