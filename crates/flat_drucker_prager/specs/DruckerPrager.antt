-- Drucker-Prager on two axes (RULES, section 5; document 02, ticket 13; plasticity_drucker_prager.rs with DIM = 2): the walk of three axes with 2 for their number.
use Rattle.std.specs.Prelude.{List, [], ◌∷◌, ℕ, Float}
use Rattle.answers.specs.declared.Answer.{Answer}
use Rattle.answers.specs.declared.Answer.TheVariants as answers
use Rattle.tensor.specs.Matrix.{zero, one}
use Rattle.plasticity.specs.declared.Outcome.{Outcome}
use Rattle.plasticity.specs.declared.Outcome.TheVariants as outcome
use Rattle.walk.specs.Expr.{Expr}
use Rattle.walk.specs.Constants.{two}
use Rattle.walk.specs.Walk.{Walk, Ended, given, refused}
use Rattle.plasticity_drucker_prager.specs.declared.DruckerPragerPlasticity.{DruckerPragerPlasticity}
use Rattle.plasticity_drucker_prager.specs.Projection.{Way, Returned}
use Rattle.plasticity_drucker_prager.specs.Over as over
use Rattle.flat.specs.Update.{in_two, Change}
use Rattle.flat.specs.declared.State.{State}
use Rattle.flat.specs.declared.Updated.{Updated}
use Rattle.flat_drucker_prager.specs.declared.Projected.{Projected}

-- the number of axes
abbrev pub dim : Expr
dim = two

abbrev pub moved_walk : DruckerPragerPlasticity → List Float → Float → List (List Float) → List (List Float) → State → Walk (Change State)
moved_walk p sigma dq u vt s = over.moved_walk in_two p sigma dq u vt s

abbrev pub way_walk : DruckerPragerPlasticity → Way → List Float → Float → List (List Float) → List (List Float) → State → Walk (Change State)
way_walk p w sigma dq u vt s = over.way_walk in_two p w sigma dq u vt s

abbrev pub run_walk : DruckerPragerPlasticity → List (List Float) → List (List Float) → State → Walk (Change State)
run_walk p u vt s = over.run_walk in_two dim p u vt s

abbrev pub drucker_walk : DruckerPragerPlasticity → List (List Float) → List (List Float) → State → Walk (Change State)
drucker_walk p u vt s = over.drucker_walk in_two dim p u vt s

abbrev pub drucker_update : DruckerPragerPlasticity → List (List Float) → List (List Float) → State → Updated
drucker_update p u vt s = over.drucker_over in_two dim p u vt s

-- ---- as the code hands it on: zeros stand beside a refusal
abbrev pub refused_projection : ℕ → Projected
refused_projection n = record { outcome = outcome.Refused n; sigma = zero ∷ zero ∷ [] }

abbrev pub projected_of : Ended Returned → Projected
projected_of (given q) = record { outcome = over.outcome_of q.way q.dq; sigma = q.sigma }
projected_of (refused n) = refused_projection n

abbrev pub tip_of : Answer → Projected
tip_of (answers.Value norm) = record { outcome = outcome.Stored norm; sigma = one ∷ one ∷ [] }
tip_of (answers.Refused n) = refused_projection n

abbrev pub surfaced_of : Float → Ended (List Float) → Projected
surfaced_of gamma (given sigma) = record { outcome = outcome.Stored gamma; sigma = sigma }
surfaced_of gamma (refused n) = refused_projection n

abbrev pub followed_of : Outcome → DruckerPragerPlasticity → List Float → List (List Float) → List (List Float) → State → Updated
followed_of o p sigma u vt s = over.followed_of in_two o p sigma u vt s
