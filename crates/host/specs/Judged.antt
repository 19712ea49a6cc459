-- Stress and verdict of a record as one: `solid`'s answer, after 8 for a list's length and 6 for the corotated law's flag (RULES, section 6; ticket 9).
use Rattle.std.specs.Prelude.{◌&&◌, List, ℕ, get_or}
use Rattle.record.specs.Layout.{floats}
use Rattle.host_lists.specs.Laws.{neo_hookean_of, corotated_of, limits_of}
use Rattle.solid.specs.NeoHookean as neo
use Rattle.solid.specs.Corotated as corotated
use Rattle.solid.specs.declared.StressVerdict.{StressVerdict}
use Rattle.host_lists.specs.Refused.{has, sized_judged, flagged_judged}

unfoldable pub neo_hookean_stress_and_verdict : List ℕ → List ℕ → List ℕ → StressVerdict
neo_hookean_stress_and_verdict p l r =
    sized_judged (has 3 p && has 2 l && has floats r) (neo.stress_and_verdict (neo_hookean_of p) (limits_of l) r)

unfoldable pub corotated_stress_and_verdict : List ℕ → List ℕ → List ℕ → StressVerdict
corotated_stress_and_verdict p l r =
    sized_judged (has 4 p && has 2 l && has floats r)
    (flagged_judged (get_or p 0 0) (corotated.stress_and_verdict (corotated_of p) (limits_of l) r))
