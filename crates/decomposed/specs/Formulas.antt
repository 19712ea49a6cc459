-- The trace, the deviatoric part and the inverse of the transpose of matrices of formulas, with the orders of RULES, section 4.
use Rattle.std.specs.Prelude.{List, [], ◌∷◌, ℕ, suc, get_or, Float}
use Rattle.std.specs.Float.{nan, binary64}
use Rattle.std.specs.Float.Ieee.{of_bits}
use Rattle.tensor.specs.Matrix.{three}
use Rattle.walk.specs.Expr.{Expr, num, ◌-ᵉ◌, ◌*ᵉ◌, ◌/ᵉ◌}
use Rattle.walk.specs.Matrix.{total}
use Rattle.walk.specs.Tensor.{item}

-- the diagonal, its first entry in column i
abbrev pub diagonal : ℕ → List (List Expr) → List Expr
diagonal i [] = []
diagonal i (row ∷ m) = get_or row i (num nan) ∷ diagonal (suc i) m

unfoldable pub trace : List (List Expr) → Expr
trace m = total (diagonal 0 m)

-- a third of the trace is taken from the diagonal
unfoldable pub deviatoric : List (List Expr) → List (List Expr)
deviatoric m =
    let s = trace m /ᵉ num (of_bits binary64 0x4008_0000_0000_0000) in
    three (three (item m 0 0 -ᵉ s) (item m 0 1) (item m 0 2))
    (three (item m 1 0) (item m 1 1 -ᵉ s) (item m 1 2))
    (three (item m 2 0) (item m 2 1) (item m 2 2 -ᵉ s))

abbrev cofactor_row : List Float → List Float → List Expr
cofactor_row a b =
    let x : ℕ → Expr = λ i. num (get_or a i nan) in
    let y : ℕ → Expr = λ i. num (get_or b i nan) in
    three (x 1 *ᵉ y 2 -ᵉ x 2 *ᵉ y 1) (x 2 *ᵉ y 0 -ᵉ x 0 *ᵉ y 2) (x 0 *ᵉ y 1 -ᵉ x 1 *ᵉ y 0)

abbrev row_over : List Expr → Expr → List Expr
row_over a d = three (get_or a 0 (num nan) /ᵉ d) (get_or a 1 (num nan) /ᵉ d) (get_or a 2 (num nan) /ᵉ d)

-- the cofactors over d, the determinant of m: the inverse of the transpose
unfoldable pub cofactors_over : List (List Float) → Expr → List (List Expr)
cofactors_over m d =
    let r0 = get_or m 0 [] in
    let r1 = get_or m 1 [] in
    let r2 = get_or m 2 [] in
    three (row_over (cofactor_row r1 r2) d) (row_over (cofactor_row r2 r0) d) (row_over (cofactor_row r0 r1) d)
