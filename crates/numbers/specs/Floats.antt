-- Finite and NaN tests, minimum and maximum (RULES, sections 4 and 6: of a NaN and a number the number, of two zeros or two NaNs the second).
use Rattle.std.specs.Prelude.{Bool, true, false, cond, Float}
use Rattle.std.specs.Float.Ieee as Ieee
use Rattle.std.specs.Float.{nan, inf, fin}

-- neither a NaN nor an infinity
unfoldable pub finite : Float → Bool
finite nan = false
finite (inf s) = false
finite (fin s m e) = true

-- no NaN
unfoldable pub is_number : Float → Bool
is_number nan = false
is_number (inf s) = true
is_number (fin s m e) = true

abbrev pub max_of : Float → Float → Float
max_of a b = cond (is_number b) (cond (Ieee.lt b a) a b) (cond (is_number a) a b)

abbrev pub min_of : Float → Float → Float
min_of a b = cond (is_number b) (cond (Ieee.lt a b) a b) (cond (is_number a) a b)
