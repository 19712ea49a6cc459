-- The Rankine update in three axes (RULES, section 5): `Over` with the state and the projection of three.
use Rattle.std.specs.Prelude.{List, Float}
use Rattle.plasticity.specs.declared.State.{State}
use Rattle.plasticity.specs.declared.Updated.{Updated}
use Rattle.walk.specs.Expr.{Expr}
use Rattle.walk.specs.Walk.{Walk}
use Rattle.walk.specs.Update as update
use Rattle.walk.specs.Update.{in_three, Change}
use Rattle.plasticity_rankine.specs.declared.RankineArguments.{RankineArguments}
use Rattle.plasticity_rankine.specs.declared.RankinePlasticity.{RankinePlasticity}
use Rattle.plasticity_rankine.specs.Projection.{Way, project_walk}
use Rattle.plasticity_rankine.specs.Over as over
use Rattle.plasticity_rankine.specs.Over.{hardened_of}
pub use Rattle.plasticity_rankine.specs.Over.{grows, changes, by_way, soft_strength}

-- F, sigma and the plastic hardening are new
abbrev pub state_of : List (List Float) → List Float → Float → State → State
state_of f sigma h s = update.state_of f sigma (hardened_of h s.scalars)

abbrev pub store_walk : List (List Float) → List Float → List (List Float) → Expr → State → Walk Change
store_walk u sigma vt h s = over.store_walk in_three u sigma vt h s

abbrev pub exps_walk : List Float → List (List Float) → List (List Float) → Expr → State → Walk Change
exps_walk strains u vt h s = over.exps_walk in_three strains u vt h s

abbrev pub harden_walk : RankinePlasticity → Expr → List Float → List (List Float) → List (List Float) → State → Walk Change
harden_walk p norm strains u vt s = over.harden_walk in_three p norm strains u vt s

abbrev pub moved_walk : RankinePlasticity → List Float → List Expr → List (List Float) → List (List Float) → State → Walk Change
moved_walk p old new u vt s = over.moved_walk in_three p old new u vt s

abbrev pub way_walk : RankinePlasticity → Way → List Float → List Expr → List (List Float) → List (List Float) → State → Walk Change
way_walk p w old new u vt s = over.way_walk in_three p w old new u vt s

abbrev pub strained_walk : RankinePlasticity → List Float → List (List Float) → List (List Float) → State → Walk Change
strained_walk p e u vt s = over.strained_walk in_three project_walk p e u vt s

abbrev pub run_walk : RankinePlasticity → List Float → List (List Float) → List (List Float) → State → Walk Change
run_walk p sigma u vt s = over.run_walk in_three project_walk p sigma u vt s

abbrev pub rankine_walk : RankinePlasticity → List (List Float) → List (List Float) → State → Walk Change
rankine_walk p u vt s = over.rankine_walk in_three project_walk p u vt s

abbrev pub arguments_walk : RankineArguments → List (List Float) → List (List Float) → State → Walk Change
arguments_walk a u vt s = over.arguments_walk in_three project_walk a u vt s

-- ---- a refused call hands the state back as it came
abbrev pub rankine_update : RankinePlasticity → List (List Float) → List (List Float) → State → Updated
rankine_update p u vt s = over.rankine_over in_three project_walk p u vt s

abbrev pub arguments_update : RankineArguments → List (List Float) → List (List Float) → State → Updated
arguments_update a u vt s = over.arguments_over in_three project_walk a u vt s
