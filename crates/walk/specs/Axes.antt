-- Matrices over any number n of axes, as lists of rows: transpose, product, scaling and U sigma V^T by maps over the axes, with the orders of
-- RULES, section 4; and what they are worth as formulas.
use Rattle.std.specs.Prelude.{List, [], ◌∷◌, map, ◌≡◌, refl, ℕ, get_or, Float}
use Rattle.std.specs.Float.{nan}
use Rattle.tensor.specs.Axes.{axes_from}
use Rattle.tensor.specs.Matrix.{dot_of, scaled_row_of}
use Rattle.walk.specs.Expr.{Expr, values}
use Rattle.walk.specs.Matrix.{entry, recompose, value_entry}

abbrev pub column : List (List Float) → ℕ → List Float
column m j = map (λ row. get_or row j nan) m

abbrev pub transpose_over : ℕ → List (List Float) → List (List Float)
transpose_over n m = map (column m) (axes_from 0 n)

abbrev pub mul_over : ℕ → List (List Float) → List (List Float) → List (List Float)
mul_over n a b = map (λ row. map (dot_of row) (transpose_over n b)) a

abbrev pub scaled_over : List (List Float) → List Float → List (List Float)
scaled_over u s = map (λ row. scaled_row_of row s) u

-- U's columns are scaled first
abbrev pub recompose_over : ℕ → List (List Float) → List Float → List (List Float) → List (List Float)
recompose_over n u s vt = mul_over n (scaled_over u s) vt

-- ---- as formulas
abbrev pub recomposed_over : ℕ → List (List Float) → List Float → List (List Float) → List (List Expr)
recomposed_over n u s vt = recompose u s (transpose_over n vt)

row_worth : (row s : List Float) (columns : List (List Float)) → values (map (λ c. entry row s c) columns) ≡ map (dot_of (scaled_row_of row s)) columns
row_worth row s [] = refl
row_worth row s (c ∷ columns) = rw (value_entry row s c, row_worth row s columns)

all_worth : (rows : List (List Float)) (s : List Float) (columns : List (List Float))
    → map values (recompose rows s columns) ≡ map (λ row. map (dot_of row) columns) (scaled_over rows s)
all_worth [] s columns = refl
all_worth (row ∷ rows) s columns = rw (row_worth row s columns, all_worth rows s columns)

pub recomposed_worth : (n : ℕ) (u : List (List Float)) (s : List Float) (vt : List (List Float)) → map values (recomposed_over n u s vt) ≡ recompose_over n u s vt
recomposed_worth n u s vt = all_worth u s (transpose_over n vt)
