-- RULES, section 6, of Snow in two axes: the theorems over any number of axes, at two.
use mathlib.Core.List.{List}
use mathlib.Core.Logic.{◌↔◌}
use mathlib.Core.Option.{none}
use mathlib.Core.Path.{◌≡◌}
use Prim.Native.Nat.{ℕ}
use lib.Ieee.{Float}
use Rattle.plasticity.specs.declared.Outcome.TheVariants.{Refused}
use Rattle.walk.specs.Body.{refusal_of}
use Rattle.walk.specs.Numbers.{Stops, Clear}
use Rattle.plasticity_snow.specs.declared.SnowPlasticity.{SnowPlasticity}
use Rattle.plasticity_snow.proofs.Refusals as snow
use Rattle.flat.specs.declared.State.{State}
use Rattle.flat.specs.Update.{in_two}
use Rattle.flat_snow.specs.Snow.{snow_update}

module _ (p : SnowPlasticity) (u vt : List (List Float)) (s : State) where
  -- "When, and only then"
  pub snow_refused : (n : ℕ) → ((snow_update p u vt s).outcome ≡ Refused n) ↔ Stops n (snow.snow_path in_two p u vt s)
  snow_refused n = snow.snow_refused in_two p u vt s n

  pub snow_accepted : (refusal_of (snow_update p u vt s).outcome ≡ none) ↔ Clear (snow.snow_path in_two p u vt s)
  snow_accepted = snow.snow_accepted in_two p u vt s
