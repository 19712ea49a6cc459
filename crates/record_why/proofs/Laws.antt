-- Ticket 8 of a record: it is refused exactly where the pass refuses it, by the same number; else the last test on its law's path is told, and the
-- pass leaves what that path ends with.
use mathlib.Core.Bool.{Bool, true, false, cond, ◌&&◌, true≢false}
use mathlib.Core.List.{List}
use mathlib.Core.Path.{◌≡◌, refl, sym, ap, ◌∙◌}
use native.Mathlib.Omega.{arith}
use Prim.Native.Nat.{ℕ}
use lib.Ieee.{Float}
use borrow.Author.Tests.{eq-eqb, ne_eqb}
use Rattle.numbers.specs.Floats.{finite}
use Rattle.plasticity.specs.State.{refused}
use Rattle.plasticity.specs.declared.Outcome.{Outcome}
use Rattle.plasticity.specs.declared.Outcome.TheVariants as outcome
use Rattle.plasticity.specs.declared.State.{State}
use Rattle.plasticity.specs.declared.Updated.{Updated}
use Rattle.record.specs.Layout.{place_determinant, float_at, u_at, vt_at, state_at, record_finite, determinant_right}
use Rattle.walk.specs.Walk.{given}
use Rattle.walk.specs.Exact.{final}
use Rattle.walk.specs.Update.{updated_of}
use Rattle.reason.specs.declared.Reason.{Reason}
use Rattle.reason.specs.declared.Reason.TheVariants as reason
use Rattle.reason.specs.Told.{reason_number, outcome_number}
use Rattle.reason.proofs.Told.{number_told, last_told}
use Rattle.model.specs.declared.Model.{Model}
use Rattle.model.specs.Rows.{acts_of}
use Rattle.model.specs.Model.{model_finite, model_update, model_walk, model_reason, model_last}
use Rattle.one_record.specs.RecordLaw.{updated_at, kept, law_at, kept_by, record_law}
use Rattle.record_why.specs.declared.Cause.{Cause}
use Rattle.record_why.specs.declared.Cause.TheVariants.{Told, Parameter, Record}
use Rattle.model.proofs.RowLaws.{untested_none}
use Rattle.one_record.proofs.RecordLaws.{last_finite, law_right}
use Rattle.record_why.specs.Why.{reason_with, record_reason, told_of, number_of}

-- ---- by the model's law
module _ (u vt : List (List Float)) (s : State) (m : Model) where
  pub model_number : reason_number (model_reason m u vt s) ≡ outcome_number (model_update m u vt s).outcome
  model_number = number_told ((acts_of m).untested s) (untested_none m s) s (model_walk m u vt s)

  abbrev Last : Type 0
  Last = (model_reason m u vt s ≡ model_last m u vt s) × (model_update m u vt s ≡ updated_of s (given (final (model_walk m u vt s))))

  pub model_last_lem : reason_number (model_reason m u vt s) ≡ 0 → Last
  model_last_lem e = last_told ((acts_of m).untested s) (untested_none m s) s (model_walk m u vt s) e

-- ---- of a record whose floats are finite and whose determinant is right
module _ (m : Model) (r : List ℕ) (f : record_finite r ≡ true) where
  -- only a law that stores leaves a determinant that isn't finite
  unrefused : (o : Outcome) (s : State) → finite (float_at (kept m o r s) place_determinant) ≡ false → outcome_number o ≡ 0
  unrefused outcome.Untouched s h = refl
  unrefused (outcome.Stored a) s h = refl
  unrefused (outcome.Refused n) s h = absurd (true≢false (sym (last_finite r f) ∙ h))

  -- the pass's number tells the law's own reason from 3 of the new determinant
  pub right_reason : determinant_right r ≡ true → reason_with (model_reason m (u_at r) (vt_at r) (state_at r)) (outcome_number (record_law m r).outcome) ≡ record_reason m r
  unfolding record_reason record_law updated_at
  right_reason d = rw (law_right m r f d, d) (go (finite (float_at (kept m new.outcome r new.state) place_determinant)) refl)
    where
      new : Updated
      new = model_update m (u_at r) (vt_at r) (state_at r)

      told : Reason
      told = model_reason m (u_at r) (vt_at r) (state_at r)

      number : reason_number told ≡ outcome_number new.outcome
      number = model_number (u_at r) (vt_at r) (state_at r) m

      go : (e : Bool) → finite (float_at (kept m new.outcome r new.state) place_determinant) ≡ e
          → reason_with told (outcome_number (cond e new (refused 3 new.state)).outcome) ≡ cond e told (reason.Refused 3 41)
      go true h = rw (eq-eqb (reason_number told) (outcome_number new.outcome) number) refl
      go false h = rw (ne_eqb (reason_number told) 3 (λ z. let q = unrefused new.outcome new.state h in let n = number in omega arith)) refl

-- ---- of a record
module _ (m : Model) (p r : List ℕ) where
  abbrev s : State
  s = state_at r

  abbrev told : Reason
  told = model_reason m (u_at r) (vt_at r) s

  abbrev new : Updated
  new = model_update m (u_at r) (vt_at r) s

  abbrev reasons : Bool → Bool → Bool → Bool → ℕ → ℕ → Cause
  reasons a b c e i j = cond a (cond b (Told (cond c (cond e told (reason.Refused 3 41)) (reason.Refused 11 40))) (Record i)) (Parameter j)

  abbrev laws : Bool → Bool → Bool → Bool → Updated
  laws a b c e = cond (a && b) (cond c (cond e new (refused 3 new.state)) (refused 11 s)) (refused 1 s)

  same : (a b c e : Bool) (i j : ℕ) → number_of (reasons a b c e i j) ≡ outcome_number (laws a b c e).outcome
  same false b c e i j = refl
  same true false c e i j = refl
  same true true false e i j = refl
  same true true true false i j = refl
  same true true true true i j = model_number (u_at r) (vt_at r) s m

  abbrev stored : Bool
  stored = finite (float_at (kept m new.outcome r new.state) place_determinant)

  -- "A refusal gives the number": the pass's own
  pub number_same : number_of (told_of m p r) ≡ outcome_number (record_law m r).outcome
  unfolding told_of record_reason record_law law_at updated_at
  number_same = same (model_finite m) (record_finite r) (determinant_right r) stored _ _

  abbrev Ends : Cause → Updated → Type 0
  Ends w d =
      (w ≡ Told (model_last m (u_at r) (vt_at r) s)) × (d ≡ updated_of s (given (final (model_walk m (u_at r) (vt_at r) s))))

  ends : (a b c e : Bool) (i j : ℕ) → number_of (reasons a b c e i j) ≡ 0 → Ends (reasons a b c e i j) (laws a b c e)
  ends false b c e i j h = absurd (omega arith)
  ends true false c e i j h = absurd (omega arith)
  ends true true false e i j h = absurd (omega arith)
  ends true true true false i j h = absurd (omega arith)
  ends true true true true i j h = let q = model_last_lem (u_at r) (vt_at r) s m h in (ap Told q.0, q.1)

  -- "a named test is the last of those made .. and that branch gives the stored record"
  pub last_gives : number_of (told_of m p r) ≡ 0 → Ends (told_of m p r) (law_at m r)
  unfolding told_of record_reason law_at updated_at
  last_gives h = ends (model_finite m) (record_finite r) (determinant_right r) stored _ _ h

  pub after_gives : number_of (told_of m p r) ≡ 0 → (record_law m r).after ≡ (kept_by m (updated_of s (given (final (model_walk m (u_at r) (vt_at r) s)))) r).after
  unfolding record_law
  after_gives h = ap (λ d. (kept_by m d r).after) (last_gives h).1
