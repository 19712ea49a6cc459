-- The whole number of 2^-30 that a value is taken down to, and which values are counted (RULES, section 7). A value is exact: a
-- whole number of units of 2^-1074, of which 2^1044 are 2^-30 and 2^1094 are 2^20.
use Rattle.std.specs.Prelude.{ℕ, ◌/◌, ◌^◌, Bool, not, ◌&&◌, ℤ, pos, negsuc, nat_le, Float}
use Rattle.exact.specs.Units.{mag}
use Rattle.exact.specs.Value.{val}
use Rattle.numbers.specs.Floats.{finite}

-- so many units as whole multiples of 2^-30, towards minus infinity: of -(u + 1) the floor is -(u / 2^1044 + 1)
abbrev pub down : ℤ → ℤ
down (pos u) = pos (u / 2 ^ 1044)
down (negsuc u) = negsuc (u / 2 ^ 1044)

unfoldable pub whole_of : Float → ℤ
whole_of x = down (val x)

-- within 2^20 of zero, 2^20 itself too
unfoldable pub within : Float → Bool
within x = nat_le (mag x) (2 ^ 1094)

-- the three places of a column: a value goes to one of them
unfoldable pub is_counted : Float → Bool
is_counted x = finite x && within x

unfoldable pub is_outside : Float → Bool
is_outside x = finite x && not (within x)

unfoldable pub is_not_finite : Float → Bool
is_not_finite x = not (finite x)
