-- The NACC update in three axes (RULES, section 5): `Over` with the state and the axes of three.
use Rattle.std.specs.Prelude.{List, Float}
use Rattle.plasticity.specs.declared.State.{State}
use Rattle.plasticity.specs.declared.Updated.{Updated}
use Rattle.walk.specs.Walk.{Walk}
use Rattle.walk.specs.Update.{in_three, Change}
use Rattle.plasticity_nacc.specs.declared.NaccArguments.{NaccArguments}
use Rattle.plasticity_nacc.specs.declared.NaccPlasticity.{NaccPlasticity}
use Rattle.plasticity_nacc.specs.Axes.{three_axes}
use Rattle.plasticity_nacc.specs.Projection.{Way, Shape}
use Rattle.plasticity_nacc.specs.Over as over

abbrev pub way_walk : Way → Shape → List (List Float) → List (List Float) → State → Walk Change
way_walk w q u vt s = over.way_walk in_three w q u vt s

abbrev pub run_walk : NaccPlasticity → List (List Float) → List (List Float) → State → Walk Change
run_walk p u vt s = over.run_walk in_three three_axes p u vt s

abbrev pub nacc_walk : NaccPlasticity → List (List Float) → List (List Float) → State → Walk Change
nacc_walk p u vt s = over.nacc_walk in_three three_axes p u vt s

abbrev pub arguments_walk : NaccArguments → List (List Float) → List (List Float) → State → Walk Change
arguments_walk a u vt s = over.arguments_walk in_three three_axes a u vt s

-- ---- as the code hands it on: the state is stored where the values are new
abbrev pub nacc_update : NaccPlasticity → List (List Float) → List (List Float) → State → Updated
nacc_update p u vt s = over.nacc_over in_three three_axes p u vt s

abbrev pub arguments_update : NaccArguments → List (List Float) → List (List Float) → State → Updated
arguments_update a u vt s = over.arguments_over in_three three_axes a u vt s
