-- A reason as eleven words (RULES, section 7; docs/STEPS.md): kind, refusal, step, whose place, place, test, whether it held, branch, and the numbers as bits.
use Rattle.std.specs.Prelude.{Bool, cond, List, [], ◌∷◌, ℕ}
use Rattle.record.specs.Layout.{bits}
use Rattle.reason.specs.declared.Bound.{Bound}
use Rattle.reason.specs.declared.Bound.TheVariants.{Neither, Lower, Upper}
use Rattle.reason.specs.declared.Reason.{Reason}
use Rattle.reason.specs.declared.Reason.TheVariants as reason
use Rattle.model.specs.declared.Law.{Law}
use Rattle.model.specs.Rows.{law_of, row_of}
use Rattle.record_why.specs.declared.Cause.{Cause}
use Rattle.record_why.specs.declared.Cause.TheVariants.{Told, Parameter, Record, Refused}

abbrev pub bound_number : Bound → ℕ
bound_number Neither = 0
bound_number Lower = 1
bound_number Upper = 2

abbrev pub held_number : Bool → ℕ
held_number held = cond held 1 0

-- the branch that a test chose, by the law's row
abbrev pub branch_of : Law → ℕ → Bool → ℕ
branch_of law test held = (row_of law).branch test held

abbrev pub reason_words : Law → Reason → List ℕ
reason_words law (reason.Tested t h a b) = 0 ∷ 0 ∷ 0 ∷ 0 ∷ 0 ∷ t ∷ held_number h ∷ branch_of law t h ∷ bits a ∷ bits b ∷ 0 ∷ []
reason_words law (reason.Zeros t h a b c) = 1 ∷ 0 ∷ 0 ∷ 0 ∷ 0 ∷ t ∷ held_number h ∷ branch_of law t h ∷ bits a ∷ bits b ∷ bits c ∷ []
reason_words law (reason.Flagged t h) = 2 ∷ 0 ∷ 0 ∷ 0 ∷ 0 ∷ t ∷ held_number h ∷ branch_of law t h ∷ 0 ∷ 0 ∷ 0 ∷ []
reason_words law (reason.Clamped x y z) = 3 ∷ 0 ∷ 0 ∷ 0 ∷ 0 ∷ 0 ∷ 0 ∷ 1 ∷ bound_number x ∷ bound_number y ∷ bound_number z ∷ []
reason_words law (reason.Refused n k) = 4 ∷ n ∷ k ∷ 0 ∷ 0 ∷ 0 ∷ 0 ∷ 0 ∷ 0 ∷ 0 ∷ 0 ∷ []

abbrev pub words_of : ℕ → Cause → List ℕ
words_of number (Told q) = reason_words (law_of number) q
words_of number (Parameter i) = 4 ∷ 1 ∷ 0 ∷ 1 ∷ i ∷ 0 ∷ 0 ∷ 0 ∷ 0 ∷ 0 ∷ 0 ∷ []
words_of number (Record i) = 4 ∷ 1 ∷ 0 ∷ 2 ∷ i ∷ 0 ∷ 0 ∷ 0 ∷ 0 ∷ 0 ∷ 0 ∷ []
words_of number (Refused n) = 4 ∷ n ∷ 0 ∷ 0 ∷ 0 ∷ 0 ∷ 0 ∷ 0 ∷ 0 ∷ 0 ∷ 0 ∷ []

abbrev pub call_refusal : Cause → ℕ
call_refusal (Told q) = 0
call_refusal (Parameter i) = 0
call_refusal (Record i) = 0
call_refusal (Refused n) = n
