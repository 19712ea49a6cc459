-- a finite binary64 value in units of 2 ^ -1074: its magnitude is a whole number of units
use Rattle.std.specs.Prelude.{ℕ, ◌*◌, ◌/◌, ◌^◌, Bool, false, T, Float}
use Rattle.std.specs.Float.{nan, inf, fin, binary64}
use Rattle.std.specs.Float.Ieee.{up, down, fits}
use Rattle.std.specs.Float.Ieee.Scale.{finite}

-- 2 ^ 1074, shut: an atom for `omega`
unfoldable pub L : ℕ
L = 2 ^ 1074

unfoldable pub mag : Float → ℕ
mag nan = 0
mag (inf s) = 0
mag (fin s m e) = m * up e * L / down e

abbrev pub sgn : Float → Bool
sgn nan = false
sgn (inf s) = s
sgn (fin s m e) = s

-- finite, and a value of the format
abbrev pub Fin64 : Float → Type 0
Fin64 x = T (finite x) × T (fits binary64 x)
