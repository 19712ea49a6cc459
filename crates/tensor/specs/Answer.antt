-- What a call that gives a matrix or a vector answers (RULES, section 6: a number to be returned isn't finite, 3). Zeros stand beside a refusal.
use Rattle.std.specs.Prelude.{Bool, cond, List, ℕ, Float}
use Rattle.answers.specs.Refusals.{not_finite, no_number}
use Rattle.tensor.specs.Matrix.{zero, three, rows_of}
use Rattle.tensor.specs.Finite.{row_finite, mat_finite}
use Rattle.tensor.specs.declared.Rows.{Rows}
use Rattle.tensor.specs.declared.MatrixAnswer.{MatrixAnswer}
use Rattle.tensor.specs.declared.VectorAnswer.{VectorAnswer}

abbrev pub zero_row : List Float
zero_row = three zero zero zero

abbrev pub zero_rows : Rows
zero_rows = record { r0 = zero_row; r1 = zero_row; r2 = zero_row }

abbrev pub refused_matrix : ℕ → MatrixAnswer
refused_matrix n = record { refusal = n; matrix = zero_rows }

abbrev pub refused_vector : ℕ → VectorAnswer
refused_vector n = record { refusal = n; vector = zero_row }

-- the matrix where it is finite, else 3
unfoldable pub answered : List (List Float) → MatrixAnswer
answered m = cond (mat_finite m) (record { refusal = 0; matrix = rows_of m }) (refused_matrix no_number)

unfoldable pub answered_vector : List Float → VectorAnswer
answered_vector v = cond (row_finite v) (record { refusal = 0; vector = v }) (refused_vector no_number)

-- the answer where the inputs are finite, else 1
abbrev pub given_matrix : Bool → MatrixAnswer → MatrixAnswer
given_matrix ok a = cond ok a (refused_matrix not_finite)

abbrev pub given_vector : Bool → VectorAnswer → VectorAnswer
given_vector ok a = cond ok a (refused_vector not_finite)
