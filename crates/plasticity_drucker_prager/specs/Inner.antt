-- What the code hands on inside: the results as it tests them, what is made of the projection, and why (ticket 8).
use Rattle.std.specs.Prelude.{Bool, true, false, cond, ◌&&◌, List, Float}
use Rattle.answers.specs.Refusals.{no_number}
use Rattle.answers.specs.declared.Answer.{Answer}
use Rattle.answers.specs.declared.Answer.TheVariants as answers
use Rattle.numbers.specs.Floats.{finite}
use Rattle.tensor.specs.Finite.{row_finite, mat_finite}
use Rattle.plasticity.specs.declared.Outcome.TheVariants as outcome
use Rattle.plasticity.specs.declared.State.{State}
use Rattle.plasticity.specs.declared.Updated.{Updated}
use Rattle.walk.specs.Walk.{Walk, ◌then◌}
use Rattle.walk.specs.Update.{in_three, Change}
use Rattle.reason.specs.declared.Reason.{Reason}
use Rattle.reason.specs.declared.Reason.TheVariants as reason
use Rattle.reason.specs.Why.{why}
use Rattle.plasticity_drucker_prager.specs.declared.Branch.{Branch}
use Rattle.plasticity_drucker_prager.specs.declared.Branch.TheVariants as branches
use Rattle.plasticity_drucker_prager.specs.declared.DruckerPragerPlasticity.{DruckerPragerPlasticity}
use Rattle.plasticity_drucker_prager.specs.declared.Projected.{Projected}
use Rattle.plasticity_drucker_prager.specs.Alpha.{dim}
use Rattle.plasticity_drucker_prager.specs.Projection.{project_walk, refused_projection, outcome_of}
use Rattle.plasticity_drucker_prager.specs.Over as over
use Rattle.plasticity_drucker_prager.specs.DruckerPrager.{moved_walk, way_walk}

abbrev pub finite_results : List (List Float) → List Float → Float → Float → Float → Bool
finite_results f sigma d h gain = (mat_finite f && row_finite sigma) && ((finite d && finite h) && finite gain)

abbrev pub untouched_of : State → Updated
untouched_of s = record { state = s; outcome = outcome.Untouched }

-- the outcome is that of the projection
abbrev pub followed_of : Branch → DruckerPragerPlasticity → List Float → Float → List (List Float) → List (List Float) → State → Updated
followed_of b p sigma dq u vt s = over.followed_of in_three (outcome_of b dq) p sigma u vt s

abbrev pub tip_of : Branch → List Float → Answer → Projected
tip_of b ones (answers.Value norm) = record { branch = b; sigma = ones; dq = norm }
tip_of b ones (answers.Refused n) = refused_projection n 10

abbrev pub returned_of : Projected → Projected
returned_of q = cond (row_finite q.sigma && finite q.dq) q (refused_projection no_number 19)

-- the branch's test: the deviatoric entries, 0 < trace, gamma <= 0
abbrev pub test_of : Branch → Reason
test_of (branches.Isotropic x y z) = reason.Zeros 8 true x y z
test_of (branches.Expanding trace zero) = reason.Tested 9 true zero trace
test_of (branches.Inside gamma zero) = reason.Tested 13 true gamma zero
test_of (branches.Surface gamma zero norm) = reason.Tested 13 false gamma zero
test_of (branches.Refused n step) = reason.Refused n step

-- the branch, and what follows it
abbrev pub branch_told : Branch → DruckerPragerPlasticity → List Float → Float → List (List Float) → List (List Float) → State → Reason
branch_told (branches.Isotropic x y z) p sigma dq u vt s = why (test_of (branches.Isotropic x y z)) (moved_walk p sigma dq u vt s)
branch_told (branches.Expanding x y) p sigma dq u vt s = why (test_of (branches.Expanding x y)) (moved_walk p sigma dq u vt s)
branch_told (branches.Inside x y) p sigma dq u vt s = test_of (branches.Inside x y)
branch_told (branches.Surface x y z) p sigma dq u vt s = why (test_of (branches.Surface x y z)) (moved_walk p sigma dq u vt s)
branch_told (branches.Refused n step) p sigma dq u vt s = reason.Refused n step

-- the projection and what follows it
unfoldable pub follow_walk : DruckerPragerPlasticity → List Float → Float → List (List Float) → List (List Float) → State → Walk Change
follow_walk p sigma alpha u vt s = project_walk dim p sigma s.scalars.log_gain alpha then (λ q. way_walk p q.way q.sigma q.dq u vt s)
