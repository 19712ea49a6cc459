-- What the model's law makes of one record (RULES, sections 6 and 7).
use Rattle.std.specs.Prelude.{◌≡◌, Bool, true, false, cond, ◌&&◌, List, ℕ, eqb, length}
use Rattle.numbers.specs.Floats.{finite}
use Rattle.answers.specs.Refusals.{not_finite, no_number, wrong_length, wrong_determinant}
use Rattle.plasticity.specs.State.{state_finite, refused}
use Rattle.plasticity.specs.declared.Outcome.{Outcome}
use Rattle.plasticity.specs.declared.Outcome.TheVariants.{Untouched, Stored, Refused}
use Rattle.plasticity.specs.declared.State.{State}
use Rattle.plasticity.specs.declared.Updated.{Updated}
use Rattle.record.specs.Layout.{layout, floats, place_determinant, float_at, u_at, vt_at, state_at, record_finite, determinant_at, determinant_right, put_bare, put_shape}
use Rattle.model.specs.declared.Model.{Model}
use Rattle.model.specs.Rows.{acts_of}
use Rattle.model.specs.Model.{model_finite, model_update}
use Rattle.model.specs.Named.{named}
use Rattle.one_record.specs.Kept.{stored_over, kept_over}

-- what a step makes of one record: the outcome, whether the record failed and was not refused, and the record afterwards
pub record Worked : Type 0 where
  pub outcome : Outcome
  pub failed : Bool
  pub after : List ℕ

-- ---- three axes
abbrev pub put_scalars : Model → List ℕ → State → List ℕ
put_scalars m r s = named layout (acts_of m).law r s.scalars

abbrev pub put_state : Model → List ℕ → State → List ℕ
put_state m r s = stored_over layout put_shape (λ x. x.scalars) m r s

unfoldable pub updated_at : Model → List ℕ → Updated
updated_at m r = model_update m (u_at r) (vt_at r) (state_at r)

-- a record that is untouched or refused holds its bits
abbrev pub kept : Model → Outcome → List ℕ → State → List ℕ
kept m o r s = kept_over layout put_shape (λ x. x.scalars) m o r s

-- the word beside an update is the determinant of the F that it stores, if it stores; what it stores is finite
abbrev pub Beside : Outcome → List ℕ → State → ℕ → Type 0
Beside Untouched r s w = Unit {0}
Beside (Stored a) r s w = (w ≡ determinant_at (put_bare r s)) × (state_finite s ≡ true)
Beside (Refused n) r s w = Unit {0}

-- an update that would store a determinant that isn't finite is refused by 3
abbrev pub measured : Model → List ℕ → Updated → Updated
measured m r d = cond (finite (float_at (kept m d.outcome r d.state) place_determinant)) d (refused no_number d.state)

-- 1 over the parameters and all the record's floats, then 11, then the law
unfoldable pub law_at : Model → List ℕ → Updated
law_at m r =
    cond (model_finite m && record_finite r)
    (cond (determinant_right r) (measured m r (updated_at m r)) (refused wrong_determinant (state_at r)))
    (refused not_finite (state_at r))

abbrev pub kept_by : Model → Updated → List ℕ → Worked
kept_by m d r = record { outcome = d.outcome; failed = false; after = kept m d.outcome r d.state }

unfoldable pub record_law : Model → List ℕ → Worked
record_law m r = kept_by m (law_at m r) r

-- one record by itself: refusal 8 where the list is no record
abbrev pub record_outcome : Model → List ℕ → Outcome
record_outcome m r = cond (eqb (length r) floats) (record_law m r).outcome (Refused wrong_length)

abbrev pub record_after : Model → List ℕ → List ℕ
record_after m r = cond (eqb (length r) floats) (record_law m r).after r
