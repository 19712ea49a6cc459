-- The Drucker-Prager update in three axes (RULES, section 5): `Over` with the state and the number of three.
use Rattle.std.specs.Prelude.{List, Float}
use Rattle.plasticity.specs.declared.Scalars.{Scalars}
use Rattle.plasticity.specs.declared.State.{State}
use Rattle.plasticity.specs.declared.Updated.{Updated}
use Rattle.walk.specs.Expr.{Expr, num, ◌+ᵉ◌, ◌*ᵉ◌, value}
use Rattle.walk.specs.Walk.{Walk, less, picked}
use Rattle.walk.specs.Update as update
use Rattle.walk.specs.Update.{in_three, Change}
use Rattle.reason.specs.Traced.{Traced, reached, stopped, traced}
use Rattle.plasticity_drucker_prager.specs.declared.DruckerPragerPlasticity.{DruckerPragerPlasticity}
use Rattle.plasticity_drucker_prager.specs.declared.Measured.{Measured}
use Rattle.plasticity_drucker_prager.specs.declared.Measured.TheVariants as measured
use Rattle.plasticity_drucker_prager.specs.Alpha.{dim}
use Rattle.plasticity_drucker_prager.specs.Over as over
pub use Rattle.plasticity_drucker_prager.specs.Over.{scalars_of, Measures, measure_walk, stays_of, law_walk}
use Rattle.plasticity_drucker_prager.specs.Projection.{zero, Way}

-- F, sigma and the three scalars are new
abbrev pub state_of : List (List Float) → List Float → Float → Float → Float → State → State
state_of f sigma d h gain s = update.state_of f sigma (scalars_of d h gain s.scalars)

abbrev pub store_walk : List (List Float) → List Float → List (List Float) → Expr → Expr → Expr → Float → State → Walk Change
store_walk u sigma vt d h gain dq s = over.store_walk in_three u sigma vt d h gain dq s

abbrev pub moved_walk : DruckerPragerPlasticity → List Float → Float → List (List Float) → List (List Float) → State → Walk Change
moved_walk p sigma dq u vt s = over.moved_walk in_three p sigma dq u vt s

abbrev pub way_walk : DruckerPragerPlasticity → Way → List Float → Float → List (List Float) → List (List Float) → State → Walk Change
way_walk p w sigma dq u vt s = over.way_walk in_three p w sigma dq u vt s

abbrev pub run_walk : DruckerPragerPlasticity → List (List Float) → List (List Float) → State → Walk Change
run_walk p u vt s = over.run_walk in_three dim p u vt s

abbrev pub drucker_walk : DruckerPragerPlasticity → List (List Float) → List (List Float) → State → Walk Change
drucker_walk p u vt s = over.drucker_walk in_three dim p u vt s

abbrev pub corrected_of : DruckerPragerPlasticity → Float → Float → Float → Float
corrected_of p prev grown diff = picked (less zero (num diff)) (num grown) (num prev +ᵉ num diff *ᵉ num p.volume_correction)

-- ---- as the code hands it on: a refused call hands the state back as it came
abbrev pub measured_as : Traced Measures → Measured
measured_as (reached m) = measured.Values (value m.determinant) (value m.hardening) (value m.gain)
measured_as (stopped n step) = measured.Refused n step

unfoldable pub measured_of : DruckerPragerPlasticity → Float → Float → Float → Scalars → Measured
measured_of p prev grown dq x = measured_as (traced (measure_walk p (num prev) (num grown) dq x))

abbrev pub drucker_update : DruckerPragerPlasticity → List (List Float) → List (List Float) → State → Updated
drucker_update p u vt s = over.drucker_over in_three dim p u vt s
