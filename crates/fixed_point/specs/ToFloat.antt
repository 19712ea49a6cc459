-- The float of l * 2 ^ -u with a sign, cut to 53 digits, and its distance from it (RULES, section 3). Assumes nothing.
use Rattle.std.specs.Prelude.{◌≡◌, Bool, true, false, ℕ, zero, suc, ◌+◌, ◌-◌, ◌*◌, ◌/◌, ◌^◌, ◌≤◌, ◌<◌, Float}
use Rattle.std.specs.Int.Count.{count_leading_zeros}
use Rattle.std.specs.Float.{binary64}
use Rattle.std.specs.Float.Ieee.{of_bits}
use Rattle.exact.specs.Units.{mag, sgn, Fin64}

-- the pattern: the exponent's field is one more where the leading digit of the 53 is added to it
abbrev pub pattern_of : ℕ → ℕ → ℕ
pattern_of l u = (1085 - u - count_leading_zeros 64 l) * 2 ^ 52 + l * 2 ^ count_leading_zeros 64 l / 2 ^ 11

unfoldable pub to_float_of : ℕ → ℕ → Bool → Float
to_float_of zero u s = of_bits binary64 0
to_float_of (suc l) u true = of_bits binary64 (2 ^ 63 + pattern_of (suc l) u)
to_float_of (suc l) u false = of_bits binary64 (pattern_of (suc l) u)

-- r is l * 2 ^ -u with the sign s, cut: below it by less than one part in 2 ^ 52
pub record FloatOf (l u : ℕ) (s : Bool) (r : Float) : Type 0 where
  pub is : r ≡ to_float_of l u s
  pub fine : Fin64 r
  pub sign : 0 < l → sgn r ≡ s
  pub most : mag r ≤ l * 2 ^ (1074 - u)
  pub least : l * 2 ^ (1074 - u) * 2 ^ 52 ≤ mag r * (2 ^ 52 + 1)
