-- Demand 3 in two axes (ticket 13: "Demand 3 holds there with 2mu + 2lambda for 2mu + 3lambda in every place"): `rankine_surface`'s over the number
-- of axes, with the flat state, the larger of two strains and the flat projection (RULES, section 7).
use Rattle.std.specs.Prelude.{Bool, List, Float}
use Rattle.plasticity_rankine.specs.declared.RankineArguments.{RankineArguments}
use Rattle.plasticity_rankine.specs.declared.RankinePlasticity.{RankinePlasticity}
use Rattle.plasticity_rankine.specs.Law.{law_of}
use Rattle.rankine_surface.specs.Surface.{Axes, first_test_in, AssumedByIn, Demand3In, ArchivesIn}
use Rattle.flat.specs.declared.State.{State}
use Rattle.flat.specs.declared.Updated.{Updated}
use Rattle.flat.specs.Update.{in_two}
use Rattle.flat_rankine.specs.Projection.{larger, project_walk, moved_of}
use Rattle.flat_rankine.specs.Rankine.{arguments_update}

abbrev pub two_axes : Axes State Updated
two_axes =
    record {
      count = 2;
      body = in_two;
      largest = larger;
      project = project_walk;
      strains_in = λ x. (moved_of x).strains;
    }

abbrev pub first_test : RankinePlasticity → List Float → Float → Bool
first_test p e s = first_test_in two_axes p e s

-- what is assumed, and what is promised, of an update
abbrev pub Assumed : RankineArguments → List (List Float) → List (List Float) → State → Type 0
Assumed a u vt st = AssumedByIn two_axes a st (arguments_update a u vt st)

abbrev pub Demand3 : RankineArguments → List (List Float) → List (List Float) → State → Type 0
Demand3 a u vt st = Demand3In two_axes (law_of a) st (arguments_update a u vt st)

abbrev pub Archives : RankineArguments → List (List Float) → List (List Float) → State → Type 0
Archives a u vt st = ArchivesIn two_axes (law_of a) st (arguments_update a u vt st)
