-- Matrices of formulas, three rows of three, with the orders of RULES, section 4: what the calls of `tensor` work, part by part.
use Rattle.std.specs.Prelude.{List, [], ◌∷◌, map, ℕ, get_or, Float}
use Rattle.std.specs.Float.{nan}
use Rattle.tensor.specs.Axes.{pairwise}
use Rattle.tensor.specs.Matrix as tensor
use Rattle.tensor.specs.Matrix.{three}
pub use Rattle.walk.specs.Constants.{one}
use Rattle.walk.specs.Expr.{Expr, num, ◌+ᵉ◌, ◌-ᵉ◌, ◌*ᵉ◌, values, nums}
use Rattle.walk.specs.Matrix.{dots}

-- what a matrix is worth, and a matrix of numbers
abbrev pub worth : List (List Expr) → List (List Float)
worth m = map values m

unfoldable pub rows : List (List Float) → List (List Expr)
rows m = map nums m

-- the entry in row i and column j
abbrev pub item : List (List Expr) → ℕ → ℕ → Expr
item m i j = get_or (get_or m i []) j (num nan)

unfoldable pub turned : List (List Expr) → List (List Expr)
turned m =
    three (three (item m 0 0) (item m 1 0) (item m 2 0))
    (three (item m 0 1) (item m 1 1) (item m 2 1))
    (three (item m 0 2) (item m 1 2) (item m 2 2))

-- a row times the columns, the rows of t
abbrev row_times : List Expr → List (List Expr) → List Expr
row_times a t = three (dots a (get_or t 0 [])) (dots a (get_or t 1 [])) (dots a (get_or t 2 []))

abbrev by_columns : List (List Expr) → List (List Expr) → List (List Expr)
by_columns a t = three (row_times (get_or a 0 []) t) (row_times (get_or a 1 []) t) (row_times (get_or a 2 []) t)

unfoldable pub times : List (List Expr) → List (List Expr) → List (List Expr)
times a b = by_columns a (turned b)

abbrev pub row_plus : List Expr → List Expr → List Expr
row_plus a b = pairwise ◌+ᵉ◌ a b

unfoldable pub plus : List (List Expr) → List (List Expr) → List (List Expr)
plus a b = three (row_plus (get_or a 0 []) (get_or b 0 [])) (row_plus (get_or a 1 []) (get_or b 1 [])) (row_plus (get_or a 2 []) (get_or b 2 []))

abbrev pub row_scaled : Expr → List Expr → List Expr
row_scaled k a = map (λ x. k *ᵉ x) a

unfoldable pub scaled : Expr → List (List Expr) → List (List Expr)
scaled k a = three (row_scaled k (get_or a 0 [])) (row_scaled k (get_or a 1 [])) (row_scaled k (get_or a 2 []))

-- off the diagonal stands k times 0
unfoldable pub identity_times : Expr → List (List Expr)
identity_times k =
    let o = k *ᵉ num tensor.zero in
    three (three (k *ᵉ one) o o) (three o (k *ᵉ one) o) (three o o (k *ᵉ one))

-- along the first row
unfoldable pub determinant : List (List Float) → Expr
determinant m =
    let x : ℕ → ℕ → Expr = λ i j. num (tensor.at m i j) in
    x 0 0 *ᵉ (x 1 1 *ᵉ x 2 2 -ᵉ x 2 1 *ᵉ x 1 2) -ᵉ x 0 1 *ᵉ (x 1 0 *ᵉ x 2 2 -ᵉ x 2 0 *ᵉ x 1 2) +ᵉ x 0 2 *ᵉ (x 1 0 *ᵉ x 2 1 -ᵉ x 2 0 *ᵉ x 1 1)
