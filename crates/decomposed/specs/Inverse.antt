-- The inverse of the transpose (RULES, section 4: "the cofactors over F's determinant (at 0 the identity)").
use Rattle.std.specs.Prelude.{cond, List, [], get_or, Float}
use Rattle.std.specs.Float.Ieee as Ieee
use Rattle.std.specs.Float.{nan}
use Rattle.tensor.specs.Matrix.{sub, mul, div, zero, one, three, identity_times_of}

-- the cofactors of one row, from the two rows that follow it in turn: each with its sign
abbrev pub cofactor_row_of : List Float → List Float → List Float
cofactor_row_of a b =
    three (sub (mul (get_or a 1 nan) (get_or b 2 nan)) (mul (get_or a 2 nan) (get_or b 1 nan)))
    (sub (mul (get_or a 2 nan) (get_or b 0 nan)) (mul (get_or a 0 nan) (get_or b 2 nan)))
    (sub (mul (get_or a 0 nan) (get_or b 1 nan)) (mul (get_or a 1 nan) (get_or b 0 nan)))

unfoldable pub cofactors_of : List (List Float) → List (List Float)
cofactors_of m =
    three (cofactor_row_of (get_or m 1 []) (get_or m 2 [])) (cofactor_row_of (get_or m 2 []) (get_or m 0 [])) (cofactor_row_of (get_or m 0 []) (get_or m 1 []))

abbrev pub row_over_of : List Float → Float → List Float
row_over_of a d = three (div (get_or a 0 nan) d) (div (get_or a 1 nan) d) (div (get_or a 2 nan) d)

unfoldable pub mat_over_of : List (List Float) → Float → List (List Float)
mat_over_of m d = three (row_over_of (get_or m 0 []) d) (row_over_of (get_or m 1 []) d) (row_over_of (get_or m 2 []) d)

-- j is the determinant of m
unfoldable pub inverse_transpose_of : List (List Float) → Float → List (List Float)
inverse_transpose_of m j = cond (Ieee.eq j zero) (identity_times_of one) (mat_over_of (cofactors_of m) j)
