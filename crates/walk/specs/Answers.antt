-- Walks that end in a number, a matrix or a vector: the steps that these need, what the code answers, and when it refuses (RULES, section 6).
use Rattle.std.specs.Prelude.{List, [], ◌∷◌, ℕ, Float}
use Rattle.std.proofs.Math.Option.{Option, some, none}
use Rattle.tensor.specs.Matrix.{rows_of}
use Rattle.tensor.specs.Answer.{refused_matrix, refused_vector}
use Rattle.tensor.specs.declared.MatrixAnswer.{MatrixAnswer}
use Rattle.tensor.specs.declared.VectorAnswer.{VectorAnswer}
use Rattle.walk.specs.Expr.{Expr, value, values}
use Rattle.walk.specs.Walk.{Walk, works, results, end, Ended, given, refused}
use Rattle.walk.specs.Matrix.{joined}
use Rattle.walk.specs.Tensor.{worth}

-- the entries of a matrix are worked
abbrev pub matrix : {A : Type 0} → ℕ → List (List Expr) → (List (List Float) → Walk A) → Walk A
matrix n m k = works n (joined m) (λ l. k (worth m))

-- a number is returned, a matrix or a vector: what is returned is finite
abbrev pub returned : ℕ → Expr → Walk Float
returned n e = results n ((e ∷ []) ∷ []) (end (value e))

abbrev pub returned_matrix : ℕ → List (List Expr) → Walk (List (List Float))
returned_matrix n m = results n m (end (worth m))

abbrev pub returned_vector : ℕ → List Expr → Walk (List Float)
returned_vector n v = results n (v ∷ []) (end (values v))

-- as the code hands it on: zeros stand beside a refusal
abbrev pub vector_as : Ended (List Float) → VectorAnswer
vector_as (given v) = record { refusal = 0; vector = v }
vector_as (refused n) = refused_vector n

abbrev pub matrix_as : Ended (List (List Float)) → MatrixAnswer
matrix_as (given m) = record { refusal = 0; matrix = rows_of m }
matrix_as (refused n) = refused_matrix n

-- the number that refuses, if one does
abbrev pub refusal_in : {A : Type 0} → Ended A → Option ℕ
refusal_in (given a) = none
refusal_in (refused n) = some n
