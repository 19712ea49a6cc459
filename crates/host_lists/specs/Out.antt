-- An answer into a host's room, by kinds (RULES, section 6): 8 where the room has the wrong length, the refusal's number, or 0.
use Rattle.std.specs.Prelude.{Bool, cond, ◌&&◌, List, [], ◌∷◌, ℕ, eqb, set}
use Rattle.answers.specs.declared.Answer.{Answer}
use Rattle.answers.specs.declared.Answer.TheVariants.{Value, Refused}
use Rattle.answers.specs.declared.Pair.{Pair}
use Rattle.answers.specs.declared.Pair.TheVariants as Pair
use Rattle.tensor.specs.declared.VectorAnswer.{VectorAnswer}
use Rattle.tensor.specs.declared.MatrixAnswer.{MatrixAnswer}
use Rattle.solid.specs.declared.StressVerdict.{StressVerdict}
use Rattle.record.specs.Layout.{bits, put_row, put_rows}
use Rattle.host_lists.specs.Refused.{has}
use Rattle.host_lists.specs.Called.{Called, called, sized_call}

-- one number, into a room of one place
abbrev pub number_left : Answer → List ℕ → Called
number_left (Value v) out = called 0 (set out 0 (bits v) ∷ [])
number_left (Refused n) out = called n (out ∷ [])

unfoldable pub number_in : Answer → List ℕ → Called
number_in a out = sized_call (has 1 out) (number_left a out) (out ∷ [])

-- two numbers, into a room of two places
abbrev pub pair_left : Pair → List ℕ → Called
pair_left (Pair.Values x y) out = called 0 (set (set out 0 (bits x)) 1 (bits y) ∷ [])
pair_left (Pair.Refused n) out = called n (out ∷ [])

unfoldable pub pair_in : Pair → List ℕ → Called
pair_in a out = sized_call (has 2 out) (pair_left a out) (out ∷ [])

-- a vector's three numbers
unfoldable pub vector_in : VectorAnswer → List ℕ → Called
vector_in a out =
    sized_call (has 3 out) (called a.refusal (cond (eqb a.refusal 0) (put_row out 0 a.vector) out ∷ [])) (out ∷ [])

-- a matrix's nine numbers, by rows
unfoldable pub matrix_in : MatrixAnswer → List ℕ → Called
matrix_in a out =
    sized_call (has 9 out) (called a.refusal (cond (eqb a.refusal 0) (put_rows out 0 a.matrix) out ∷ [])) (out ∷ [])

-- 1 for yes and 0 for no
abbrev pub verdict_word : Bool → ℕ
verdict_word failed = cond failed 1 0

-- a stress's nine numbers and its verdict, each into a room of its own: 8 where either has another length
unfoldable pub judged_in : StressVerdict → List ℕ → List ℕ → Called
judged_in a stress verdict =
    let ok = eqb a.refusal 0 in
    sized_call (has 9 stress && has 1 verdict)
    (called a.refusal (cond ok (put_rows stress 0 a.stress) stress ∷ cond ok (set verdict 0 (verdict_word a.failed)) verdict ∷ []))
    (stress ∷ verdict ∷ [])
