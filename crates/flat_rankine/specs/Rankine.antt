-- The Rankine update of a flat particle (RULES, sections 5 and 6; ticket 13): the walk over any number of axes with the state and the projection of
-- two.
use Rattle.std.specs.Prelude.{List, Float}
use Rattle.walk.specs.Expr.{Expr, nums}
use Rattle.walk.specs.Walk.{Walk, walk_result}
use Rattle.plasticity_rankine.specs.declared.RankineArguments.{RankineArguments}
use Rattle.plasticity_rankine.specs.declared.RankinePlasticity.{RankinePlasticity}
use Rattle.plasticity_rankine.specs.Over as over
pub use Rattle.plasticity_rankine.specs.Over.{hardened_of}
use Rattle.flat.specs.declared.State.{State}
use Rattle.flat.specs.declared.Updated.{Updated}
use Rattle.flat.specs.Update.{in_two, Change, updated_of, untouched_of, refused}
use Rattle.flat_rankine.specs.declared.Branch.{Branch}
use Rattle.flat_rankine.specs.declared.Branch.TheVariants.{Untouched, Moved, Refused}
use Rattle.flat_rankine.specs.Projection.{project_walk}

abbrev pub exps_walk : List Float → List (List Float) → List (List Float) → Expr → State → Walk (Change State)
exps_walk strains u vt h s = over.exps_walk in_two strains u vt h s

abbrev pub moved_walk : RankinePlasticity → List Float → List Expr → List (List Float) → List (List Float) → State → Walk (Change State)
moved_walk p old new u vt s = over.moved_walk in_two p old new u vt s

abbrev pub strained_walk : RankinePlasticity → List Float → List (List Float) → List (List Float) → State → Walk (Change State)
strained_walk p e u vt s = over.strained_walk in_two project_walk p e u vt s

abbrev pub run_walk : RankinePlasticity → List Float → List (List Float) → List (List Float) → State → Walk (Change State)
run_walk p sigma u vt s = over.run_walk in_two project_walk p sigma u vt s

abbrev pub arguments_walk : RankineArguments → List (List Float) → List (List Float) → State → Walk (Change State)
arguments_walk a u vt s = over.arguments_walk in_two project_walk a u vt s

abbrev pub arguments_update : RankineArguments → List (List Float) → List (List Float) → State → Updated
arguments_update a u vt s = over.arguments_over in_two project_walk a u vt s

-- ---- as the code hands it on
abbrev pub followed_of : Branch → RankinePlasticity → List Float → List Float → List (List Float) → List (List Float) → State → Updated
followed_of Untouched p old new u vt s = untouched_of s
followed_of Moved p old new u vt s = updated_of s (walk_result (moved_walk p old (nums new) u vt s))
followed_of (Refused n) p old new u vt s = refused n s
