-- Snow in two axes (RULES, sections 5 and 6; ticket 13; plasticity_snow.rs with DIM = 2): the law over any number of axes with the state of two.
use Rattle.std.specs.Prelude.{List, Float}
use Rattle.walk.specs.Walk.{Walk}
use Rattle.plasticity_snow.specs.declared.SnowPlasticity.{SnowPlasticity}
use Rattle.plasticity_snow.specs.Over as over
use Rattle.flat.specs.declared.State.{State}
use Rattle.flat.specs.declared.Updated.{Updated}
use Rattle.flat.specs.Update.{in_two, Change}

abbrev pub run_walk : SnowPlasticity → List (List Float) → List (List Float) → State → Walk (Change State)
run_walk p u vt s = over.run_walk in_two p u vt s

abbrev pub snow_walk : SnowPlasticity → List (List Float) → List (List Float) → State → Walk (Change State)
snow_walk p u vt s = over.snow_walk in_two p u vt s

abbrev pub snow_update : SnowPlasticity → List (List Float) → List (List Float) → State → Updated
snow_update p u vt s = over.snow_over in_two p u vt s
