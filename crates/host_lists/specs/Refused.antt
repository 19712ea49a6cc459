-- The refusals of a host's lists themselves (RULES, section 6): 8 for a length, 6 for a flag.
use Rattle.std.specs.Prelude.{Bool, true, cond, List, ℕ, eqb, length}
use Rattle.answers.specs.Refusals.{unknown, wrong_length}
use Rattle.answers.specs.declared.Answer.{Answer}
use Rattle.answers.specs.declared.Answer.TheVariants.{Refused}
use Rattle.tensor.specs.Answer.{refused_vector, refused_matrix}
use Rattle.tensor.specs.declared.VectorAnswer.{VectorAnswer}
use Rattle.tensor.specs.declared.MatrixAnswer.{MatrixAnswer}
use Rattle.solid.specs.Judged.{refused_judged}
use Rattle.solid.specs.declared.StressVerdict.{StressVerdict}
use Rattle.model.specs.Kinds.{allowed}

-- the answer where the lists have their lengths, else 8
abbrev pub sized_number : Bool → Answer → Answer
sized_number ok a = cond ok a (Refused wrong_length)

abbrev pub sized_vector : Bool → VectorAnswer → VectorAnswer
sized_vector ok a = cond ok a (refused_vector wrong_length)

abbrev pub sized_matrix : Bool → MatrixAnswer → MatrixAnswer
sized_matrix ok a = cond ok a (refused_matrix wrong_length)

abbrev pub sized_judged : Bool → StressVerdict → StressVerdict
sized_judged ok a = cond ok a (refused_judged wrong_length)

-- whether a list has the length n
abbrev pub has : ℕ → List ℕ → Bool
has n l = eqb (length l) n

-- the answer where w is a flag, else 6
abbrev pub flagged_number : ℕ → Answer → Answer
flagged_number w a = cond (allowed true w) a (Refused unknown)

abbrev pub flagged_judged : ℕ → StressVerdict → StressVerdict
flagged_judged w a = cond (allowed true w) a (refused_judged unknown)
