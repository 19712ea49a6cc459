-- Section 6 of neo-Hookean's `elastic_energy_density` in either mode (ticket 14). Assumes nothing.
use mathlib.Core.Bool.{Bool}
use mathlib.Core.List.{List, [], ◌∷◌}
use lib.Ieee.{Float}
use Rattle.walk.specs.Exact.{path}
use Rattle.elasticity_neo_hookean.specs.declared.NeoHookeanElasticity.{NeoHookeanElasticity}
use Rattle.elasticity_neo_hookean.specs.Law.{floats}
use Rattle.elasticity_neo_hookean.specs.Energy.{energy_steps, energy_walk_in, elastic_energy_density_in}
use Rattle.elasticity_neo_hookean.proofs.Laws.{energy_inner}
use Rattle.refusals.specs.Refusals.{Gives}
use Rattle.refusals.proofs.Answers.{walk_gives}

pub mode_gives : (one_split : Bool) (p : NeoHookeanElasticity) (phase h : Float) (f : List (List Float))
    → Gives (elastic_energy_density_in one_split p phase h f) (path (energy_walk_in one_split p phase h f))
unfolding energy_walk_in
mode_gives one_split p phase h f = walk_gives (floats p (phase ∷ h ∷ []) f) (energy_steps one_split p phase h f) (energy_inner one_split p phase h f)
