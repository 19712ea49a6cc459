-- Of each axis, of some axis, and the exact sum over all axes.
use Rattle.std.specs.Prelude.{List, [], ◌∷◌, ◌⊎◌, ℤ, pos, ◌+ℤ◌, Float}
use Rattle.exact.specs.Value.{val}

abbrev pub Each : (Float → Type 0) → List Float → Type 0
Each F [] = Unit {0}
Each F (x ∷ e) = F x × Each F e

abbrev pub Some : (Float → Type 0) → List Float → Type 0
Some F [] = ⊥
Some F (x ∷ e) = F x ⊎ Some F e

-- in units of 2 ^ -1074
abbrev pub total : List Float → ℤ
total [] = pos 0
total (x ∷ e) = val x +ℤ total e
