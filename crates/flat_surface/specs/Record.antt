-- Demand 3 of a flat record and of a flat pass, by bits and answers (RULES, section 7): `rankine_surface`'s over the number of axes, with the flat
-- layout; of a pass it is `InPassOver` and `pass_found_over` at the flat width.
use Rattle.std.specs.Prelude.{List, ℕ}
use Rattle.plasticity.specs.declared.Outcome.{Outcome}
use Rattle.plasticity_rankine.specs.declared.RankineArguments.{RankineArguments}
use Rattle.rankine_surface.specs.Record.{Records, PremisesIn, Found, Demand3AtIn, ArchivesAtIn}
use Rattle.flat.specs.declared.State.{State}
use Rattle.flat.specs.declared.Updated.{Updated}
use Rattle.flat_particles.specs.Layout.{floats, state_at}
use Rattle.flat_surface.specs.Surface.{two_axes}

abbrev pub flat : Records State Updated
flat = record { axes = two_axes; floats = floats; at = state_at }

abbrev pub Premises : RankineArguments → List ℕ → Outcome → Type 0
Premises a r o = PremisesIn flat a r o

abbrev pub Demand3At : RankineArguments → List ℕ → Found → Type 0
Demand3At a r f = Demand3AtIn flat a r f

abbrev pub ArchivesAt : RankineArguments → List ℕ → Found → Type 0
ArchivesAt a r f = ArchivesAtIn flat a r f
