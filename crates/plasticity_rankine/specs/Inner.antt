-- What the code hands on inside: the branch with the numbers compared or the refusal with its step, what is made of it, and why (ticket 8).
use Rattle.std.specs.Prelude.{true, false, List, [], ◌∷◌, ℕ, Float}
use Rattle.tensor.specs.Answer.{zero_row, answered_vector, refused_vector}
use Rattle.tensor.specs.declared.VectorAnswer.{VectorAnswer}
use Rattle.plasticity.specs.State as law
use Rattle.plasticity.specs.declared.Outcome.TheVariants as outcome
use Rattle.plasticity.specs.declared.State.{State}
use Rattle.plasticity.specs.declared.Updated.{Updated}
use Rattle.walk.specs.Expr.{num, values, nums}
use Rattle.walk.specs.Walk.{Walk, walk_result}
use Rattle.walk.specs.Update.{Change, updated_of}
use Rattle.reason.specs.declared.Reason.{Reason}
use Rattle.reason.specs.declared.Reason.TheVariants as reason
use Rattle.reason.specs.Traced.{Traced, reached, stopped, traced}
use Rattle.reason.specs.Why.{why}
use Rattle.plasticity_rankine.specs.declared.Branch.{Branch}
use Rattle.plasticity_rankine.specs.declared.Branch.TheVariants.{Untouched, One, Two, All, Refused}
use Rattle.plasticity_rankine.specs.declared.Moves.{Moves}
use Rattle.plasticity_rankine.specs.declared.Moves.TheVariants as moves
use Rattle.plasticity_rankine.specs.declared.Projected.{Projected}
use Rattle.plasticity_rankine.specs.declared.Rank.{Rank}
use Rattle.plasticity_rankine.specs.declared.Rank.TheVariants.{R012, R021, R102, R120, R201, R210}
use Rattle.plasticity_rankine.specs.declared.RankinePlasticity.{RankinePlasticity}
use Rattle.plasticity_rankine.specs.Projection.{Way, none_moves, one_moves, two_move, all_move, Moved, project_walk}
use Rattle.plasticity_rankine.specs.Rankine.{moved_walk}

-- what the six orders stand for
abbrev pub indexes_of : Rank → List ℕ
indexes_of R012 = 0 ∷ 1 ∷ 2 ∷ []
indexes_of R021 = 0 ∷ 2 ∷ 1 ∷ []
indexes_of R102 = 1 ∷ 0 ∷ 2 ∷ []
indexes_of R120 = 1 ∷ 2 ∷ 0 ∷ []
indexes_of R201 = 2 ∷ 0 ∷ 1 ∷ []
indexes_of R210 = 2 ∷ 1 ∷ 0 ∷ []

-- ---- the projection: zeros stand beside a refusal
abbrev pub branch_of : Way → Branch
branch_of (none_moves x y) = Untouched x y
branch_of (one_moves x y) = One x y
branch_of (two_move x y) = Two x y
branch_of (all_move x y) = All x y

abbrev pub refused_strains : ℕ → ℕ → Projected
refused_strains n step = record { branch = Refused n step; strains = zero_row }

abbrev pub moved_of : Traced Moved → Projected
moved_of (reached q) = record { branch = branch_of q.way; strains = values q.strains }
moved_of (stopped n step) = refused_strains n step

abbrev pub projected_of : RankinePlasticity → List Float → Float → Projected
projected_of p e s = moved_of (traced (project_walk p e (num s)))

-- the strains, or the refusal that the branch carries
abbrev pub by_branch : Branch → List Float → VectorAnswer
by_branch (Untouched x y) e = answered_vector e
by_branch (One x y) e = answered_vector e
by_branch (Two x y) e = answered_vector e
by_branch (All x y) e = answered_vector e
by_branch (Refused n step) e = refused_vector n

-- ---- the update after it: a refused call hands the state back as it came
abbrev pub untouched_of : State → Updated
untouched_of s = record { state = s; outcome = outcome.Untouched }

-- whether strains move
abbrev pub moves_of : Branch → Moves
moves_of (Untouched x y) = moves.No
moves_of (One x y) = moves.Yes
moves_of (Two x y) = moves.Yes
moves_of (All x y) = moves.Yes
moves_of (Refused n step) = moves.Refused n

-- w where they do
abbrev pub by_moves : Moves → Walk Change → State → Updated
by_moves moves.No w s = untouched_of s
by_moves moves.Yes w s = updated_of s (walk_result w)
by_moves (moves.Refused n) w s = law.refused n s

abbrev pub followed_of : Branch → RankinePlasticity → List Float → List Float → List (List Float) → List (List Float) → State → Updated
followed_of b p old new u vt s = by_moves (moves_of b) (moved_walk p old (nums new) u vt s) s

-- ---- why: the branch's own test, and what refuses after it
abbrev pub followed_reason : Branch → RankinePlasticity → List Float → List Float → List (List Float) → List (List Float) → State → Reason
followed_reason (Untouched x y) p old new u vt s = reason.Tested 4 true x y
followed_reason (One x y) p old new u vt s = why (reason.Tested 5 true x y) (moved_walk p old (nums new) u vt s)
followed_reason (Two x y) p old new u vt s = why (reason.Tested 6 true x y) (moved_walk p old (nums new) u vt s)
followed_reason (All x y) p old new u vt s = why (reason.Tested 6 false x y) (moved_walk p old (nums new) u vt s)
followed_reason (Refused n step) p old new u vt s = reason.Refused n step
