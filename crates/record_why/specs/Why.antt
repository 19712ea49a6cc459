-- Why a record moved, or why it didn't (RULES, section 7; ticket 8): "A refusal gives the number, the step and, for 1, the first such float's place, parameters first."
use Rattle.std.specs.Prelude.{cond, ◌&&◌, List, ℕ, zero, suc, eqb, length}
use Rattle.numbers.specs.Floats.{finite}
use Rattle.answers.specs.Refusals.{no_number, unknown, wrong_length, wrong_determinant}
use Rattle.record.specs.Layout.{floats, place_determinant, float_at, u_at, vt_at, state_at, record_finite, determinant_right}
use Rattle.reason.specs.declared.Reason.{Reason}
use Rattle.reason.specs.declared.Reason.TheVariants as reason
use Rattle.reason.specs.Told.{reason_number}
use Rattle.model.specs.declared.Model.{Model}
use Rattle.model.specs.Model.{model_finite, model_reason}
use Rattle.model.specs.Kinds.{parameters_fit, model_known}
use Rattle.model.specs.Fields.{model_of}
use Rattle.one_record.specs.RecordLaw.{updated_at, kept}
use Rattle.record_why.specs.declared.Cause.{Cause}
use Rattle.record_why.specs.declared.Cause.TheVariants.{Told, Parameter, Record, Refused}

-- the first float that isn't finite among the first i, or i
unfoldable pub place_in : List ℕ → ℕ → ℕ
place_in w zero = 0
place_in w (suc i) = cond (eqb (place_in w i) i && finite (float_at w i)) (suc i) (place_in w i)

-- the record's own steps
abbrev pub stored_determinant : ℕ
stored_determinant = 40

abbrev pub new_determinant : ℕ
new_determinant = 41

-- the law's own reason; but where the pass refuses by another number, 3 of the new determinant
abbrev pub reason_with : Reason → ℕ → Reason
reason_with q n = cond (eqb (reason_number q) n) q (reason.Refused no_number new_determinant)

-- of a finite record: 11, then the law, then 3 of the determinant that would be stored
unfoldable pub record_reason : Model → List ℕ → Reason
record_reason m r =
    cond (determinant_right r)
    (cond (finite (float_at (kept m (updated_at m r).outcome r (updated_at m r).state) place_determinant)) (model_reason m (u_at r) (vt_at r) (state_at r))
    (reason.Refused no_number new_determinant))
    (reason.Refused wrong_determinant stored_determinant)

-- 1 first, parameters first
unfoldable pub told_of : Model → List ℕ → List ℕ → Cause
told_of m p r =
    cond (model_finite m) (cond (record_finite r) (Told (record_reason m r)) (Record (place_in r (length r)))) (Parameter (place_in p (length p)))

-- of a sheet's model, parameters and record, as bits: 8, then 6, as for writing a sheet
unfoldable pub why_of : ℕ → List ℕ → List ℕ → Cause
why_of number p r =
    cond (parameters_fit number p && eqb (length r) floats) (cond (model_known number p) (told_of (model_of number p) p r) (Refused unknown)) (Refused wrong_length)

-- ---- the number of the refusal, 0 where there is none
abbrev pub number_of : Cause → ℕ
number_of (Told q) = reason_number q
number_of (Parameter i) = 1
number_of (Record i) = 1
number_of (Refused n) = n
