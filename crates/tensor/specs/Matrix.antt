-- Matrices of three rows of three, as lists of rows, with the orders of RULES, section 4.
use Rattle.std.specs.Prelude.{List, [], ◌∷◌, map, ℕ, get_or, Float}
use Rattle.std.specs.Float.Ieee as Ieee
use Rattle.std.specs.Float.{nan, binary64}
use Rattle.std.specs.Float.Ieee.{of_bits}
pub use Rattle.numbers.specs.Constants.{zero, one}
use Rattle.tensor.specs.Axes.{from_left, pairwise}
use Rattle.tensor.specs.declared.Rows.{Rows}

abbrev pub add : Float → Float → Float
add a b = Ieee.add binary64 a b

abbrev pub sub : Float → Float → Float
sub a b = Ieee.sub binary64 a b

abbrev pub mul : Float → Float → Float
mul a b = Ieee.mul binary64 a b

abbrev pub div : Float → Float → Float
div a b = Ieee.div binary64 a b

abbrev pub three : {A : Type 0} → A → A → A → List A
three a b c = a ∷ b ∷ c ∷ []

-- the entry in row i and column j
abbrev pub at : List (List Float) → ℕ → ℕ → Float
at m i j = get_or (get_or m i []) j nan

abbrev pub transpose_of : List (List Float) → List (List Float)
transpose_of m =
    three (three (at m 0 0) (at m 1 0) (at m 2 0))
    (three (at m 0 1) (at m 1 1) (at m 2 1))
    (three (at m 0 2) (at m 1 2) (at m 2 2))

-- sums and products go by rising index, from the left
unfoldable pub sum_of : List Float → Float
sum_of e = from_left add zero e

unfoldable pub product_of : List Float → Float
product_of s = from_left mul one s

unfoldable pub dot_of : List Float → List Float → Float
dot_of a b = sum_of (pairwise mul a b)

-- a row times the columns, the rows of t
abbrev pub row_times_of : List Float → List (List Float) → List Float
row_times_of a t = three (dot_of a (get_or t 0 [])) (dot_of a (get_or t 1 [])) (dot_of a (get_or t 2 []))

abbrev pub mul_cols_of : List (List Float) → List (List Float) → List (List Float)
mul_cols_of a t = three (row_times_of (get_or a 0 []) t) (row_times_of (get_or a 1 []) t) (row_times_of (get_or a 2 []) t)

abbrev pub mul_of : List (List Float) → List (List Float) → List (List Float)
mul_of a b = mul_cols_of a (transpose_of b)

-- a determinant expands along the first row
abbrev pub det_of : List (List Float) → Float
det_of m =
    add (sub (mul (at m 0 0) (sub (mul (at m 1 1) (at m 2 2)) (mul (at m 2 1) (at m 1 2))))
    (mul (at m 0 1) (sub (mul (at m 1 0) (at m 2 2)) (mul (at m 2 0) (at m 1 2)))))
    (mul (at m 0 2) (sub (mul (at m 1 0) (at m 2 1)) (mul (at m 2 0) (at m 1 1))))

unfoldable pub scaled_row_of : List Float → List Float → List Float
scaled_row_of u s = pairwise mul u s

abbrev pub scaled_of : List (List Float) → List Float → List (List Float)
scaled_of u s = three (scaled_row_of (get_or u 0 []) s) (scaled_row_of (get_or u 1 []) s) (scaled_row_of (get_or u 2 []) s)

-- U sigma V^T: `recompose` scales U's columns first
abbrev pub recompose_of : List (List Float) → List Float → List (List Float) → List (List Float)
recompose_of u s vt = mul_of (scaled_of u s) vt

-- sums, differences and multiples go entry by entry
unfoldable pub row_add_of : List Float → List Float → List Float
row_add_of a b = pairwise add a b

unfoldable pub row_sub_of : List Float → List Float → List Float
row_sub_of a b = pairwise sub a b

unfoldable pub row_scale_of : Float → List Float → List Float
row_scale_of k a = map (mul k) a

abbrev pub mat_add_of : List (List Float) → List (List Float) → List (List Float)
mat_add_of a b = three (row_add_of (get_or a 0 []) (get_or b 0 [])) (row_add_of (get_or a 1 []) (get_or b 1 [])) (row_add_of (get_or a 2 []) (get_or b 2 []))

abbrev pub mat_scale_of : Float → List (List Float) → List (List Float)
mat_scale_of k a = three (row_scale_of k (get_or a 0 [])) (row_scale_of k (get_or a 1 [])) (row_scale_of k (get_or a 2 []))

-- off the diagonal stands k times 0, which is -0 below zero and a NaN at an infinity
abbrev pub identity_times_of : Float → List (List Float)
identity_times_of k =
    three (three (mul k one) (mul k zero) (mul k zero))
    (three (mul k zero) (mul k one) (mul k zero))
    (three (mul k zero) (mul k zero) (mul k one))

abbrev pub rows_of : List (List Float) → Rows
rows_of m = record { r0 = get_or m 0 []; r1 = get_or m 1 []; r2 = get_or m 2 [] }

abbrev pub of_rows : Rows → List (List Float)
of_rows m = three m.r0 m.r1 m.r2
