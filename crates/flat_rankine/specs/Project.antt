-- Rankine's projection on two log strains as a call by itself (RULES, sections 5 and 6).
use Rattle.std.specs.Prelude.{cond, List, get_or, Float}
use Rattle.std.specs.Float.{nan}
use Rattle.answers.specs.Refusals.{no_number}
use Rattle.answers.specs.declared.Pair.{Pair}
use Rattle.answers.specs.declared.Pair.TheVariants as pair
use Rattle.tensor.specs.Finite.{row_finite}
use Rattle.walk.specs.Walk.{Ended, given, refused, walk_result}
use Rattle.plasticity_rankine.specs.declared.RankineArguments.{RankineArguments}
use Rattle.plasticity_rankine.specs.Law.{law_of, arguments_floats}
use Rattle.plasticity_rankine.specs.Projection.{call_over}
use Rattle.flat_rankine.specs.declared.Branch.{Branch}
use Rattle.flat_rankine.specs.declared.Branch.TheVariants.{Untouched, Moved, Refused}
use Rattle.flat_rankine.specs.Projection.{project_walk}

abbrev pub strains_of : Ended (List Float) → Pair
strains_of (given e) = pair.Values (get_or e 0 nan) (get_or e 1 nan)
strains_of (refused n) = pair.Refused n

-- by the law that `new` makes of the arguments
abbrev pub project_of : RankineArguments → List Float → Float → Pair
project_of a e s = strains_of (walk_result (call_over project_walk (arguments_floats a) (law_of a) e s))

-- ---- as the code hands it on
-- strains that are finite, else 3
abbrev pub answered_of : List Float → Pair
answered_of e = cond (row_finite e) (pair.Values (get_or e 0 nan) (get_or e 1 nan)) (pair.Refused no_number)

-- the strains, or the refusal that the branch carries
abbrev pub by_branch : Branch → List Float → Pair
by_branch Untouched e = answered_of e
by_branch Moved e = answered_of e
by_branch (Refused n) e = pair.Refused n
