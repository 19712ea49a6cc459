-- Document 02, ticket 2: "Nothing accepted before changes", of every model, record, record with failure and function by itself. What comes
-- now is what came when 2 stood for both sides of a range (`walk` specs/Before: resultBefore), with 10 at places where that is 2.
-- Of every other call the same is said of its walk (`walk` specs/Before: same-before). Proved in proofs/Before.
use Rattle.std.specs.Prelude.{◌≡◌, true, List, ℕ, Float}
use Rattle.answers.specs.Range.{ranged, bare}
use Rattle.answers.specs.Before.{number_before, answer_before, ranged_before}
use Rattle.plasticity.specs.declared.Outcome.{Outcome}
use Rattle.plasticity.specs.declared.Outcome.TheVariants.{Untouched, Stored, Refused}
use Rattle.plasticity.specs.declared.State.{State}
use Rattle.plasticity.specs.declared.Updated.{Updated}
use Rattle.walk.specs.Walk.{Function, low_of, high_of, at}
use Rattle.walk.specs.Update.{updated_of}
use Rattle.walk.specs.Before.{result_before}
use Rattle.record.specs.Layout.{state_at, determinant_right}
use Rattle.failure_maximum_stress.specs.declared.MaximumStressFailure.{MaximumStressFailure}
use Rattle.elasticity_corotated_linear.specs.declared.CorotatedLinearElasticity.{CorotatedLinearElasticity}
use Rattle.model.specs.declared.Model.{Model}
use Rattle.model.specs.Model.{model_update}
use Rattle.one_record.specs.RecordLaw.{record_law}
use Rattle.one_record.specs.Judged.{failure_law}
use Rattle.refusals.specs.Refusals.{walk_of, record_walk, failure_walk}

-- 2 for 10, all else as it is
abbrev pub outcome_before : Outcome → Outcome
outcome_before Untouched = Untouched
outcome_before (Stored a) = Stored a
outcome_before (Refused n) = Refused (number_before n)

abbrev pub updated_before : Updated → Updated
updated_before v = record { state = v.state; outcome = outcome_before v.outcome }

pub record NothingElse : Type 0 where
  pub update : (m : Model) (u vt : List (List Float)) (s : State) → updated_before (model_update m u vt s) ≡ updated_of s (result_before (walk_of m u vt s))
  -- of a record whose determinant is right; otherwise 1 or 11 comes, and no function is asked
  pub law : (m : Model) (r : List ℕ) → determinant_right r ≡ true → outcome_before (record_law m r).outcome ≡ (updated_of (state_at r) (result_before (record_walk m r))).outcome
  pub failure_law_lem : (m : Model) (l : MaximumStressFailure) (e : CorotatedLinearElasticity) (r : List ℕ) → determinant_right r ≡ true
      → outcome_before (failure_law m l e r).outcome ≡ (updated_of (state_at r) (result_before (failure_walk m l e r))).outcome
  pub call : (f : Function) (x : Float) → answer_before (bare x (ranged (low_of f) (high_of f) x (at f x))) ≡ bare x (ranged_before (low_of f) (high_of f) x (at f x))
