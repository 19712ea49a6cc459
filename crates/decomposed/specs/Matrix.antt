-- The trace, the difference of two matrices and a matrix times a vector, with the orders of RULES, section 4.
use Rattle.std.specs.Prelude.{List, [], ◌∷◌, ℕ, suc, get_or, Float}
use Rattle.std.specs.Float.{nan}
use Rattle.tensor.specs.Matrix.{three, sum_of, dot_of, row_sub_of}

-- the diagonal, its first entry in column i
abbrev pub diagonal_from : ℕ → List (List Float) → List Float
diagonal_from i [] = []
diagonal_from i (row ∷ rows) = get_or row i nan ∷ diagonal_from (suc i) rows

unfoldable pub trace_of : List (List Float) → Float
trace_of m = sum_of (diagonal_from 0 m)

abbrev pub mat_sub_of : List (List Float) → List (List Float) → List (List Float)
mat_sub_of a b = three (row_sub_of (get_or a 0 []) (get_or b 0 [])) (row_sub_of (get_or a 1 []) (get_or b 1 [])) (row_sub_of (get_or a 2 []) (get_or b 2 []))

abbrev pub mat_vec_of : List (List Float) → List Float → List Float
mat_vec_of a v = three (dot_of (get_or a 0 []) v) (dot_of (get_or a 1 []) v) (dot_of (get_or a 2 []) v)
