-- The model choice: what counts as an input of each record, the update (RULES, section 7), and why it answered as it did (ticket 8), read off the law's row.
use Rattle.std.specs.Prelude.{Bool, List, Float}
use Rattle.plasticity.specs.declared.State.{State}
use Rattle.plasticity.specs.declared.Updated.{Updated}
use Rattle.walk.specs.Walk.{Walk, walk_result}
use Rattle.walk.specs.Exact.{path, last}
use Rattle.walk.specs.Update.{Change, updated_of}
use Rattle.reason.specs.declared.Reason.{Reason}
use Rattle.reason.specs.Reason.{last_or, reason_from}
use Rattle.model.specs.declared.Model.{Model}
use Rattle.model.specs.Rows.{acts_of}

-- the parameters' floats are inputs of each record
abbrev pub model_finite : Model → Bool
model_finite m = (acts_of m).finite

abbrev pub model_walk : Model → List (List Float) → List (List Float) → State → Walk Change
model_walk m u vt s = (acts_of m).walk u vt s

abbrev pub model_update : Model → List (List Float) → List (List Float) → State → Updated
model_update m u vt s = updated_of s (walk_result (model_walk m u vt s))

-- ---- ticket 8: what is read off the path of the law's walk
abbrev pub model_reason : Model → List (List Float) → List (List Float) → State → Reason
model_reason m u vt s = reason_from ((acts_of m).untested s) (model_walk m u vt s)

-- the last test on the law's path; Snow makes none: its bounds
abbrev pub model_last : Model → List (List Float) → List (List Float) → State → Reason
model_last m u vt s = last_or ((acts_of m).untested s) (last (path (model_walk m u vt s)))
