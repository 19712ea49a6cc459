-- Snow in three axes (RULES, sections 5 and 6): `Over` with the state of three.
use Rattle.std.specs.Prelude.{List, Float}
use Rattle.plasticity.specs.declared.State.{State}
use Rattle.plasticity.specs.declared.Updated.{Updated}
use Rattle.walk.specs.Walk.{Walk}
use Rattle.walk.specs.Update.{in_three, Change}
use Rattle.plasticity_snow.specs.declared.SnowPlasticity.{SnowPlasticity}
pub use Rattle.plasticity_snow.specs.Clamp.{one, defaults, parameters_of, parameters_finite, clamp_of, clamped_of}
use Rattle.plasticity_snow.specs.Over as over
pub use Rattle.plasticity_snow.specs.Over.{scalars_of}

abbrev pub run_walk : SnowPlasticity → List (List Float) → List (List Float) → State → Walk Change
run_walk p u vt s = over.run_walk in_three p u vt s

abbrev pub snow_walk : SnowPlasticity → List (List Float) → List (List Float) → State → Walk Change
snow_walk p u vt s = over.snow_walk in_three p u vt s

abbrev pub snow_update : SnowPlasticity → List (List Float) → List (List Float) → State → Updated
snow_update p u vt s = over.snow_over in_three p u vt s
