-- What a model made ready makes of one record (RULES, section 7), by itself and with a judge: as the model does (proofs/ReadyRecordLaws).
use Rattle.std.specs.Prelude.{false, cond, ◌&&◌, List, ℕ}
use Rattle.numbers.specs.Floats.{finite}
use Rattle.answers.specs.Refusals.{not_finite, no_number, wrong_determinant}
use Rattle.plasticity.specs.State.{refused}
use Rattle.plasticity.specs.declared.Outcome.{Outcome}
use Rattle.plasticity.specs.declared.Outcome.TheVariants as outcome
use Rattle.plasticity.specs.declared.State.{State}
use Rattle.plasticity.specs.declared.Updated.{Updated}
use Rattle.record.specs.Layout.{place_determinant, float_at, u_at, vt_at, state_at, record_finite, determinant_right, put_shape}
use Rattle.model.specs.declared.Ready.{Ready}
use Rattle.model.specs.Ready.{parameters_ready, ready_update}
use Rattle.model.specs.Named.{ready_scalars}
use Rattle.one_record.specs.declared.judged.Judge.{Judge}
use Rattle.one_record.specs.RecordLaw.{Worked}
use Rattle.one_record.specs.Judged.{verdict_by, refused_record, marked, finite_by}

-- the record but for the scalars
abbrev pub shaped : Outcome → List ℕ → State → List ℕ
shaped outcome.Untouched r s = r
shaped (outcome.Stored a) r s = put_shape r s
shaped (outcome.Refused n) r s = r

abbrev pub ready_kept : Ready → Outcome → List ℕ → State → List ℕ
ready_kept q outcome.Untouched r s = r
ready_kept q (outcome.Stored a) r s = ready_scalars q (put_shape r s) s
ready_kept q (outcome.Refused n) r s = r

abbrev pub ready_kept_by : Ready → Updated → List ℕ → Worked
ready_kept_by q d r = record { outcome = d.outcome; failed = false; after = ready_kept q d.outcome r d.state }

-- 3 of the new determinant: no scalar touches it
abbrev pub measured_at : List ℕ → Updated → Updated
measured_at r d = cond (finite (float_at (shaped d.outcome r d.state) place_determinant)) d (refused no_number d.state)

-- on a finite record
unfoldable pub ready_at : Ready → List ℕ → Updated
ready_at q r =
    cond (determinant_right r)
    (measured_at r (ready_update q (u_at r) (vt_at r) (state_at r)))
    (refused (cond (parameters_ready q) wrong_determinant not_finite) (state_at r))

abbrev pub ready_marked : Ready → Judge → List ℕ → Worked
ready_marked q j r = marked (verdict_by j (state_at r).scalars.phase (ready_at q r)) r (ready_kept_by q (ready_at q r) r)

unfoldable pub ready_law : Ready → Judge → List ℕ → Worked
ready_law q j r = cond (finite_by j && record_finite r) (ready_marked q j r) (refused_record not_finite r)
