-- The sweeps and the check as one (RULES, sections 5 and 7; ticket 6: "14 comes exactly when the factors after the last sweep miss the check"; ticket 9: "14 here
-- also for principal values"). Zeros stand beside a refusal.
use Rattle.std.specs.Prelude.{cond, List, ℕ, Float}
use Rattle.answers.specs.Refusals.{not_accepted}
use Rattle.tensor.specs.Answer.{zero_row, zero_rows, refused_vector}
use Rattle.tensor.specs.declared.VectorAnswer.{VectorAnswer}
use Rattle.factors.specs.declared.FactorsAnswer.{FactorsAnswer}
use Rattle.factors.specs.Sweeps.{factors_of}
use Rattle.factors.specs.Check.{accepted_of}
use Rattle.factors.specs.PrincipalValues.{principal_of, principal_accepted}

abbrev pub refused_factors : ℕ → FactorsAnswer
refused_factors n = record { refusal = n; factors = record { u = zero_rows; sigma = zero_row; vt = zero_rows } }

unfoldable pub factored_of : List (List Float) → FactorsAnswer
factored_of f = cond (accepted_of f (factors_of f)) (record { refusal = 0; factors = factors_of f }) (refused_factors not_accepted)

unfoldable pub principals_of : List (List Float) → VectorAnswer
principals_of f = cond (principal_accepted f (principal_of f)) (record { refusal = 0; vector = (principal_of f).values }) (refused_vector not_accepted)
