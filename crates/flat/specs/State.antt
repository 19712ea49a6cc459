-- A matrix of two rows as a field of a struct (RULES, section 5, "Slices of a slope").
use Rattle.std.specs.Prelude.{Bool, ◌&&◌, List, [], ◌∷◌, get_or, Float}
use Rattle.tensor.specs.Finite.{row_finite}
use Rattle.flat.specs.declared.Rows.{Rows}

abbrev pub rows_of : List (List Float) → Rows
rows_of m = record { r0 = get_or m 0 []; r1 = get_or m 1 [] }

abbrev pub of_rows : Rows → List (List Float)
of_rows m = m.r0 ∷ m.r1 ∷ []

abbrev pub rows_finite : Rows → Bool
rows_finite m = row_finite m.r0 && row_finite m.r1
