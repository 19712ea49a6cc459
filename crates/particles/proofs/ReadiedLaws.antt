-- A model made ready makes of a record, with a judge too, what the model makes of it, and so does a step; it keeps the record's length, and an amount
-- that it stores is finite. Assumes nothing.
use mathlib.Core.Path.{◌≡◌, refl, ◌∙◌}
use mathlib.Core.Bool.{Bool, true, false, cond, ◌&&◌}
use mathlib.Core.List.{List}
use Prim.Native.Nat.{ℕ}
use lib.Ieee.{Float}
use lib.ListN.{length, length-set}
use Rattle.numbers.specs.Floats.{finite}
use Rattle.numbers.proofs.Laws.{and_both}
use Rattle.answers.specs.Refusals.{not_finite, no_number}
use Rattle.failure_maximum_stress.specs.declared.Verdict.{Verdict}
use Rattle.failure_maximum_stress.specs.declared.Verdict.TheVariants as verdicts
use Rattle.plasticity.specs.State.{refused}
use Rattle.plasticity.specs.declared.Outcome.{Outcome}
use Rattle.plasticity.specs.declared.Outcome.TheVariants.{Untouched, Stored, Refused}
use Rattle.plasticity.specs.declared.State.{State}
use Rattle.plasticity.specs.declared.Updated.{Updated}
use Rattle.record.specs.Layout.{layout, place_determinant, float_at, u_at, vt_at, state_at, record_finite, determinant_right, put_shape}
use Rattle.record.proofs.Parts.{record_inputs}
use Rattle.model.specs.declared.Ready.{Ready}
use Rattle.model.specs.Rows.{prepared_of}
use Rattle.model.specs.Ready.{ready_update}
use Rattle.model.proofs.ReadyLaws.{ready_finite_lem}
use Rattle.model.proofs.StoredFinite.{stored_finite}
use Rattle.one_record.proofs.ReadyRecordLaws.{ready_law_lem}
use Rattle.one_record.specs.declared.judged.Judge.{Judge}
use Rattle.one_record.specs.declared.judged.Judge.TheVariants.{Nobody, By}
use Rattle.particles.specs.declared.step.Step.{Step}
use Rattle.particles.specs.declared.step.Step.TheVariants as steps
use Rattle.particles.specs.declared.step.Taken.{Taken}
use Rattle.particles.specs.Pass.{Worked, AmountFinite}
use Rattle.one_record.specs.Judged.{verdict_by, refused_record, marked, finite_by}
use Rattle.one_record.specs.ReadyRecord.{shaped, ready_kept, ready_kept_by, ready_at}
use Rattle.one_record.specs.ReadyRecord.{ready_marked, ready_law}
use Rattle.particles.specs.Step.{step_law, taken_of, taken_finite, taken_law}
use Rattle.particles.proofs.PassLaws.{Keeps, named_length}
use Rattle.particles.proofs.JudgedLaws.{marked_length}

-- ---- of a step
pub taken_finite_lem : (s : Step) → taken_finite (taken_of s) ≡ true
taken_finite_lem (steps.Plain m) = ready_finite_lem m
taken_finite_lem (steps.Judged m l e) = ready_finite_lem m

pub taken_law_lem : (s : Step) → taken_law (taken_of s) ≡ step_law s
taken_law_lem (steps.Plain m) = λ i r. ready_law_lem m r Nobody i
taken_law_lem (steps.Judged m l e) = λ i r. ready_law_lem m r (By l e) i

-- ---- every record keeps its length
ready_kept_length : (q : Ready) (o : Outcome) (r : List ℕ) (s : State) → length (ready_kept q o r s) ≡ length r
ready_kept_length q Untouched r s = refl
ready_kept_length q (Stored a) r s = named_length layout (prepared_of q).law (put_shape r s) s.scalars ∙ simp length-set
ready_kept_length q (Refused n) r s = refl

pub ready_keeps : (q : Ready) (j : Judge) → Keeps (ready_law q j)
unfolding ready_law
ready_keeps q j r = go (finite_by j && record_finite r)
  where
    go : (b : Bool) → length (cond b (ready_marked q j r) (refused_record not_finite r)).after ≡ length r
    go true = let d = ready_at q r in marked_length (verdict_by j (state_at r).scalars.phase d) r (ready_kept_by q d r) (ready_kept_length q d.outcome r d.state)
    go false = refl

pub taken_keeps : (t : Taken) → Keeps (taken_law t)
taken_keeps t = ready_keeps t.ready t.judge

-- ---- an amount that is stored is finite
amount : (o : Outcome) → ((a : Float) → o ≡ Stored a → finite a ≡ true) → AmountFinite o
amount Untouched h = tt
amount (Stored a) h = h a refl
amount (Refused n) h = tt

marked_amount : (v : Verdict) (r : List ℕ) (w : Worked) → AmountFinite w.outcome → AmountFinite (marked v r w).outcome
marked_amount verdicts.No r w h = h
marked_amount verdicts.Yes r w h = h
marked_amount (verdicts.Refused n) r w h = tt

at_amount : (q : Ready) (r : List ℕ) → record_finite r ≡ true → AmountFinite (ready_at q r).outcome
unfolding ready_at
at_amount q r f = go (determinant_right r) _ (finite (float_at (shaped d.outcome r d.state) place_determinant))
  where
    d : Updated
    d = ready_update q (u_at r) (vt_at r) (state_at r)

    go : (b : Bool) (n : ℕ) (c : Bool) → AmountFinite (cond b (cond c d (refused no_number d.state)) (refused n (state_at r))).outcome
    go true n true = amount d.outcome (λ a e. (stored_finite (u_at r) (vt_at r) (state_at r) (record_inputs r f) a q e).1)
    go true n false = tt
    go false n c = tt

pub ready_amount : (q : Ready) (j : Judge) (r : List ℕ) → AmountFinite (ready_law q j r).outcome
unfolding ready_law
ready_amount q j r = go (finite_by j && record_finite r) refl
  where
    go : (b : Bool) → finite_by j && record_finite r ≡ b → AmountFinite (cond b (ready_marked q j r) (refused_record not_finite r)).outcome
    go true t = marked_amount (verdict_by j (state_at r).scalars.phase (ready_at q r)) r (ready_kept_by q (ready_at q r) r) (at_amount q r (and_both (finite_by j) (record_finite r) t).1)
    go false t = tt
