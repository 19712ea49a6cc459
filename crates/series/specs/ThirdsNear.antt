-- What RULES, section 3, asks of the powers 1/3, -1/3, 2/3 and -2/3: within 2^-45 of the exact value, times that value. The exact
-- value is the cube root of x, 1 / x, x ^ 2 or 1 / x ^ 2, and is met through cubes: t is the cube root of p / q when t ^ 3 = p / q.
use Rattle.std.specs.Prelude.{◌≡◌, false, ℕ, ◌+◌, ◌-◌, ◌*◌, ◌^◌, ◌≤◌, Float}
use Rattle.exact.specs.Units.{L, mag, sgn, Fin64}

unfoldable pub cube : ℕ → ℕ
cube n = n * n * n

-- r is positive and, for the cube root t of p / q, t (1 - 1 / d) ≤ r ≤ t (1 + 1 / d), where r is `mag r` units of 1 / L
pub record CubeRootNear (d p q : ℕ) (r : Float) : Type 0 where
  pub fine : Fin64 r
  pub sign : sgn r ≡ false
  pub low : p * cube (L * (d - 1)) ≤ q * cube (mag r * d)
  pub high : q * cube (mag r * d) ≤ p * cube (L * (d + 1))

-- x ^ (1/3)
abbrev pub CbrtNear : Float → Float → Type 0
CbrtNear x r = CubeRootNear (2 ^ 45) (mag x) L r

-- x ^ (-1/3)
abbrev pub InvCbrtNear : Float → Float → Type 0
InvCbrtNear x r = CubeRootNear (2 ^ 45) L (mag x) r

-- x ^ (2/3)
abbrev pub CbrtSquaredNear : Float → Float → Type 0
CbrtSquaredNear x r = CubeRootNear (2 ^ 45) (mag x * mag x) (L * L) r

-- x ^ (-2/3)
abbrev pub InvCbrtSquaredNear : Float → Float → Type 0
InvCbrtSquaredNear x r = CubeRootNear (2 ^ 45) (L * L) (mag x * mag x) r
