-- Stress and verdict as one (RULES, section 5; ticket 9: "answers stress and verdict together, or one refusal"; "14 here also for principal values, after the
-- stress's own"). Zeros and no stand beside a refusal.
use Rattle.std.specs.Prelude.{true, false, cond, ℕ, eqb}
use Rattle.tensor.specs.Matrix.{of_rows}
use Rattle.tensor.specs.Answer.{zero_rows}
use Rattle.tensor.specs.declared.Rows.{Rows}
use Rattle.tensor.specs.declared.MatrixAnswer.{MatrixAnswer}
use Rattle.tensor.specs.declared.VectorAnswer.{VectorAnswer}
use Rattle.factors.specs.Answers.{principals_of}
use Rattle.failure_maximum_stress.specs.Failure.{verdict_of}
use Rattle.failure_maximum_stress.specs.declared.MaximumStressFailure.{MaximumStressFailure}
use Rattle.failure_maximum_stress.specs.declared.Verdict.{Verdict}
use Rattle.failure_maximum_stress.specs.declared.Verdict.TheVariants.{No, Yes, Refused}
use Rattle.solid.specs.declared.StressVerdict.{StressVerdict}

abbrev pub refused_judged : ℕ → StressVerdict
refused_judged n = record { refusal = n; stress = zero_rows; failed = false }

abbrev pub with_verdict : Rows → Verdict → StressVerdict
with_verdict m No = record { refusal = 0; stress = m; failed = false }
with_verdict m Yes = record { refusal = 0; stress = m; failed = true }
with_verdict m (Refused n) = refused_judged n

-- the verdict on the principal values v of the stress m
abbrev pub on_principals : MaximumStressFailure → Rows → VectorAnswer → StressVerdict
on_principals l m v = cond (eqb v.refusal 0) (with_verdict m (verdict_of l v.vector)) (refused_judged v.refusal)

-- a is the law's answer: its own refusal comes first
unfoldable pub judged_of : MaximumStressFailure → MatrixAnswer → StressVerdict
judged_of l a = cond (eqb a.refusal 0) (on_principals l a.matrix (principals_of (of_rows a.matrix))) (refused_judged a.refusal)
