-- a finite binary64 value as a whole number of units of 2 ^ -1074, with its sign
use Rattle.std.specs.Prelude.{ℕ, Bool, cond, ℤ, pos, neg_ℤ, Float}
use Rattle.exact.specs.Units.{mag, sgn}

abbrev pub signed : Bool → ℕ → ℤ
signed s m = cond s (neg_ℤ (pos m)) (pos m)

unfoldable pub val : Float → ℤ
val x = signed (sgn x) (mag x)
