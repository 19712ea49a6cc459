-- NACC on two axes (RULES, section 5; document 02, ticket 13; plasticity_nacc.rs with DIM = 2): the walk over any number of axes with the state and the axes of two.
use Rattle.std.specs.Prelude.{List, [], ◌∷◌, ℕ, Float}
use Rattle.answers.specs.declared.Answer.{Answer}
use Rattle.tensor.specs.Matrix.{zero}
use Rattle.plasticity.specs.declared.Outcome.{Outcome}
use Rattle.plasticity.specs.declared.Outcome.TheVariants as outcome
use Rattle.walk.specs.Expr.{num, values}
use Rattle.walk.specs.Walk.{Walk, itself, answer_of, Ended, given, refused}
use Rattle.plasticity_nacc.specs.declared.NaccArguments.{NaccArguments}
use Rattle.plasticity_nacc.specs.declared.NaccPlasticity.{NaccPlasticity}
use Rattle.plasticity_nacc.specs.Axes.{two_axes, dim_of}
use Rattle.plasticity_nacc.specs.Formulas.{trial_of, stress}
use Rattle.plasticity_nacc.specs.Projection.{Shape, Landed}
use Rattle.plasticity_nacc.specs.Over as over
use Rattle.flat.specs.Update.{in_two, Change}
use Rattle.flat.specs.declared.State.{State}
use Rattle.flat.specs.declared.Updated.{Updated}
use Rattle.flat_nacc.specs.declared.Stepped.{Stepped}
use Rattle.flat_nacc.specs.declared.Stressed.{Stressed}

abbrev pub run_walk : NaccPlasticity → List (List Float) → List (List Float) → State → Walk (Change State)
run_walk p u vt s = over.run_walk in_two two_axes p u vt s

-- by the law that `with_m` makes of the arguments
abbrev pub nacc_walk : NaccArguments → List (List Float) → List (List Float) → State → Walk (Change State)
nacc_walk a u vt s = over.arguments_walk in_two two_axes a u vt s

abbrev pub nacc_update : NaccArguments → List (List Float) → List (List Float) → State → Updated
nacc_update a u vt s = over.arguments_over in_two two_axes a u vt s

-- ---- as the code hands it on: the powers' range asked of x, and x
abbrev pub within_of : Float → Answer
within_of x = answer_of itself x

abbrev pub stressed_of : NaccPlasticity → Float → Float → Float → List Float → Stressed
stressed_of p w p0 j sigma = record { trial = trial_of (dim_of two_axes) p w p0 j sigma; s = values (stress (dim_of two_axes) p (num w) sigma) }

-- zeros stand beside a refusal
abbrev pub refused_step : ℕ → Stepped
refused_step n = record { outcome = outcome.Refused n; sigma = zero ∷ zero ∷ [] }

abbrev pub shaped_of : Ended Shape → Stepped
shaped_of (given q) = record { outcome = outcome.Stored q.alpha; sigma = q.sigma }
shaped_of (refused n) = refused_step n

abbrev pub stepped_of : Ended Landed → Stepped
stepped_of (given q) = record { outcome = over.outcome_of q.way q.shape.alpha; sigma = q.shape.sigma }
stepped_of (refused n) = refused_step n

abbrev pub followed_of : Outcome → List Float → List (List Float) → List (List Float) → State → Updated
followed_of o sigma u vt s = over.followed_of in_two o sigma u vt s
