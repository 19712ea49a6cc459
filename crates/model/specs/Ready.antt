-- A model made ready once for many records: its parameters tested, its moduli worked; and the update by it, read off its row (RULES, sections 5, 6 and 7).
use Rattle.std.specs.Prelude.{Bool, not, cond, List, eqb, Float}
use Rattle.answers.specs.Refusals.{not_finite}
use Rattle.plasticity.specs.declared.State.{State}
use Rattle.plasticity.specs.declared.Updated.{Updated}
use Rattle.model.specs.declared.Model.{Model}
use Rattle.model.specs.declared.Ready.{Ready}
use Rattle.model.specs.declared.Ready.TheVariants.{Refused}
use Rattle.model.specs.Rows.{law_ready, prepared_of}
use Rattle.model.specs.Model.{model_finite}

-- 1 for a parameter first
unfoldable pub ready_of : Model → Ready
ready_of m = cond (model_finite m) (law_ready m) (Refused not_finite)

-- what holds of a model made ready
abbrev pub ready_finite : Ready → Bool
ready_finite q = (prepared_of q).finite

-- whether no parameter refuses: its refusal comes before a modulus's
abbrev pub parameters_ready : Ready → Bool
parameters_ready q = not (eqb (prepared_of q).refusal not_finite)

abbrev pub ready_update : Ready → List (List Float) → List (List Float) → State → Updated
ready_update q u vt s = (prepared_of q).update u vt s
