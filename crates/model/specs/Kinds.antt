-- The kinds of a model's parameters (RULES, sections 5 and 7), by its number: `Rows` says which number is which law, and of each law the kinds.
use Rattle.std.specs.Prelude.{Bool, true, false, ◌&&◌, ◌||◌, List, [], ◌∷◌, ℕ, suc, ◌+◌, eqb, ltb, leb, length, get_or}
use Rattle.model.specs.declared.Law.{Law}
use Rattle.model.specs.declared.rows.Shape.{Shape}
use Rattle.model.specs.Rows.{row_of}
pub use Rattle.model.specs.Rows.{last, whole}
unfoldable pub use Rattle.model.specs.Rows.{law_of}

abbrev pub kinds : Law → List Bool
kinds law = (row_of law).kinds

-- no law has more parameters
abbrev pub places : ℕ
places = 8

unfoldable pub kinds_of : ℕ → List Bool
kinds_of number = kinds (law_of number)

-- the place of the first flag, or how many parameters there are
abbrev pub flag_of : List Bool → ℕ
flag_of [] = 0
flag_of (true ∷ l) = 0
flag_of (false ∷ l) = suc (flag_of l)

abbrev pub shape_of : ℕ → Shape
shape_of number = record { law = law_of number; count = length (kinds_of number); flag = flag_of (kinds_of number) }

-- the bits of 1.0
abbrev pub one : ℕ
one = 0x3ff0_0000_0000_0000

-- a float may have any bits, a flag those of 0.0 and of 1.0
abbrev pub allowed : Bool → ℕ → Bool
allowed false w = true
allowed true w = eqb w 0 || eqb w one

-- each of the parameters from the i-th on, by its kind
abbrev pub flags_allowed : ℕ → List Bool → List ℕ → Bool
flags_allowed i [] p = true
flags_allowed i (flag ∷ flags) p = allowed flag (get_or p i 0) && flags_allowed (i + 1) flags p

-- else 8: as many parameters as the model has; an unknown model has no number of them
abbrev pub parameters_fit : ℕ → List ℕ → Bool
parameters_fit number p = ltb last number || eqb (length p) (length (kinds_of number))

-- else 6: a model of the eight, and each flag has the bits of 0.0 or 1.0
unfoldable pub model_known : ℕ → List ℕ → Bool
model_known number p = leb number last && flags_allowed 0 (kinds_of number) p
