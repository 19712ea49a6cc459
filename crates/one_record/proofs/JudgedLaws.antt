-- What a verdict leaves of an update; a refused stress is handed on. Assumes nothing.
use mathlib.Core.Path.{◌≡◌, refl, ap, ◌∙◌}
use mathlib.Core.Bool.{Bool, true, false, cond, false≢true, true≢false}
use mathlib.Core.List.{List}
use Prim.Native.Nat.{ℕ}
use native.Mathlib.Omega.{arith}
use lib.Dec.{eqb}
use borrow.Author.Tests.{ne_eqb}
use Rattle.record.specs.Layout.{put_phase}
use Rattle.tensor.specs.Matrix.{zero}
use lib.Ieee.{Float}
use Rattle.walk.specs.Walk.{Walk, Ended, given, refused, walk_result}
use Rattle.walk.specs.Exact.{path}
use Rattle.walk.specs.Answers.{vector_as, refusal_in}
use Rattle.walk.proofs.Answers.{refused_when, stops_positive}
use Rattle.failure_maximum_stress.specs.Failure.{verdict_of}
use Rattle.plasticity.specs.declared.Outcome.{Outcome}
use Rattle.plasticity.specs.declared.State.{State}
use Rattle.plasticity.specs.declared.Updated.{Updated}
use Rattle.failure_maximum_stress.specs.declared.MaximumStressFailure.{MaximumStressFailure}
use Rattle.failure_maximum_stress.specs.declared.Verdict.{Verdict}
use Rattle.failure_maximum_stress.specs.declared.Verdict.TheVariants.{No, Yes, Refused}
use Rattle.model.specs.declared.Ready.{Ready}
use Rattle.one_record.specs.RecordLaw.{Beside}
use Rattle.one_record.specs.Judged.{verdict_on, marked, outcome_by, failed_by}
use Rattle.one_record.specs.ReadyRecord.{ready_kept, ready_kept_by}

-- what a verdict leaves of an update: its outcome, whether the record failed, and the phase on a yes
module _ (q : Ready) (r : List ℕ) (d : Updated) where
  abbrev Leaves : Verdict → Outcome → Bool → List ℕ → Type 0
  Leaves v o f after = let w = marked v r (ready_kept_by q d r) in (o ≡ w.outcome) × (f ≡ w.failed) × (after ≡ w.after)

  module _ {o : Outcome} {l : List ℕ} where
    written : {p : Outcome} → o ≡ p → l ≡ ready_kept q o r d.state → l ≡ ready_kept q p r d.state
    written a b = b ∙ ap (λ (x : Outcome). ready_kept q x r d.state) a

    pub marked_yes : (v : Verdict) → o ≡ outcome_by v d.outcome → l ≡ ready_kept q o r d.state → failed_by v ≡ true → Leaves v o true (put_phase l zero)
    marked_yes No a b f = absurd (false≢true f)
    marked_yes Yes a b f = (a, refl, ap (λ (x : List ℕ). put_phase x zero) (written a b))
    marked_yes (Refused n) a b f = absurd (false≢true f)

    pub marked_no : (v : Verdict) → o ≡ outcome_by v d.outcome → l ≡ ready_kept q o r d.state → failed_by v ≡ false → Leaves v o false l
    marked_no No a b f = (a, refl, written a b)
    marked_no Yes a b f = absurd (true≢false f)
    marked_no (Refused n) a b f = (a, refl, written a b)

-- and what it leaves to be stored is the law's
pub beside_left : (v : Verdict) (o : Outcome) (r : List ℕ) (s : State) (w : ℕ) → Beside o r s w → Beside (outcome_by v o) r s w
beside_left No o r s w h = h
beside_left Yes o r s w h = h
beside_left (Refused n) o r s w h = tt

-- no walk refuses by 0, so that its refusal is handed on
handed : (l : MaximumStressFailure) (w : Walk (List Float)) (x : Ended (List Float)) → walk_result w ≡ x
    → cond (eqb (vector_as x).refusal 0) (verdict_of l (vector_as x).vector) (Refused (vector_as x).refusal) ≡ verdict_on l x
handed l w (given v) e = refl
handed l w (refused n) e = rw (ne_eqb n 0 (λ z. let q = stops_positive (path w) n ((refused_when w n).0 (ap refusal_in e)) in omega (arith, q, z))) refl

pub verdict_handed : (l : MaximumStressFailure) (w : Walk (List Float))
    → cond (eqb (vector_as (walk_result w)).refusal 0) (verdict_of l (vector_as (walk_result w)).vector) (Refused (vector_as (walk_result w)).refusal) ≡ verdict_on l (walk_result w)
verdict_handed l w = handed l w (walk_result w) refl
