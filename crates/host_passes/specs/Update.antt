-- What the update of one record leaves of a host's lists (RULES, sections 6 and 7): record and answer.
use Rattle.std.specs.Prelude.{◌&&◌, List, [], ◌∷◌, ℕ}
use Rattle.plasticity.specs.declared.Outcome.{Outcome}
use Rattle.plasticity.specs.declared.Outcome.TheVariants.{Untouched, Stored, Refused}
use Rattle.model.specs.declared.Model.{Model}
use Rattle.model.specs.Kinds.{parameters_fit, model_known}
use Rattle.model.specs.Fields.{model_of}
use Rattle.particles.specs.Pass.{Worked, code_of, value_of}
use Rattle.factored_particles.specs.Factored.{factor_outcome, factor_after}
use Rattle.host_lists.specs.Refused.{has}
use Rattle.host_lists.specs.Called.{Called, called, call_of}

-- a refusal of the law is the call's
abbrev pub outcome_code : Outcome → ℕ
outcome_code Untouched = 0
outcome_code (Stored a) = 0
outcome_code (Refused n) = n

-- and then nothing is written; else RULES' two numbers of the outcome
abbrev pub outcome_answer : Outcome → List ℕ → List ℕ
outcome_answer Untouched answer = code_of Untouched ∷ value_of Untouched ∷ []
outcome_answer (Stored a) answer = code_of (Stored a) ∷ value_of (Stored a) ∷ []
outcome_answer (Refused n) answer = answer

-- what the law made of the record, which holds its bits where it is untouched or refused
abbrev pub updated_by : Worked → List ℕ → Called
updated_by d answer = called (outcome_code d.outcome) (d.after ∷ outcome_answer d.outcome answer ∷ [])

-- by a model's law, of a record of w floats
unfoldable pub update_by : ℕ → (Model → List ℕ → Worked) → ℕ → List ℕ → List ℕ → List ℕ → Called
update_by w law model p r answer =
    call_of (parameters_fit model p && has w r && has 2 answer) (model_known model p)
    (updated_by (law (model_of model p) r) answer)
    (r ∷ answer ∷ [])

-- our own factors of a record, by themselves
unfoldable pub factor_by : List ℕ → Called
factor_by r = called (outcome_code (factor_outcome r)) (factor_after r ∷ [])
