-- What the call that tells why a record moves leaves of a host's list (RULES, section 7; ticket 8).
use Rattle.std.specs.Prelude.{cond, List, [], ◌∷◌, ℕ, eqb}
use Rattle.record_why.specs.declared.Cause.{Cause}
use Rattle.record_why.specs.Why.{why_of}
use Rattle.record_why.specs.Words.{words_of, call_refusal}
use Rattle.host_lists.specs.Refused.{has}
use Rattle.host_lists.specs.Called.{Called, called, sized_call}

-- a refused call writes nothing
abbrev pub cause_in : ℕ → Cause → List ℕ → Called
cause_in model w room = called (call_refusal w) (cond (eqb (call_refusal w) 0) (words_of model w) room ∷ [])

-- 8 where there aren't 11 places, or the parameters or the record have another length; then 6; else 0
unfoldable pub why_by : ℕ → List ℕ → List ℕ → List ℕ → Called
why_by model p r room = sized_call (has 11 room) (cause_in model (why_of model p r) room) (room ∷ [])
