-- The determinant in the record. Every call that stores F leaves the determinant of that F, a finite one; a record that is untouched or refused
-- keeps all its bits; 11 comes where the inputs are finite and the stored determinant is another; and where the determinant refuses nothing,
-- the law's step on the floats before it is the law's. Assumes nothing.
use mathlib.Core.Path.{◌≡◌, refl, sym, ap, ◌∙◌}
use mathlib.Core.Bool.{Bool, true, false, cond, ◌&&◌, true≢false}
use mathlib.Core.List.{List}
use Prim.Native.Nat.{ℕ}
use native.Mathlib.Omega.{arith}
use lib.ListN.{length, take}
use Rattle.numbers.specs.Floats.{finite}
use Rattle.answers.specs.Refusals.{not_finite, no_number, wrong_determinant}
use Rattle.tensor.specs.Matrix.{zero}
use Rattle.plasticity.specs.State.{inputs_finite, refused}
use Rattle.plasticity.specs.declared.Outcome.{Outcome}
use Rattle.plasticity.specs.declared.Outcome.TheVariants as outcome
use Rattle.plasticity.specs.declared.State.{State}
use Rattle.plasticity.specs.declared.Updated.{Updated}
use Rattle.record.specs.Layout.{floats, bare, place_phase, place_determinant, float_at, u_at, vt_at, state_at, bits, record_finite, determinant_right}
use Rattle.record.proofs.Places.{other, filled_right, right_other, bare_u, bare_vt, bare_state}
use Rattle.failure_maximum_stress.specs.declared.MaximumStressFailure.{MaximumStressFailure}
use Rattle.failure_maximum_stress.specs.declared.Verdict.{Verdict}
use Rattle.failure_maximum_stress.specs.declared.Verdict.TheVariants.{No, Yes, Refused}
use Rattle.elasticity_corotated_linear.specs.declared.CorotatedLinearElasticity.{CorotatedLinearElasticity}
use Rattle.model.specs.declared.Model.{Model}
use Rattle.model.specs.Model.{model_finite}
use Rattle.model.proofs.KindLaws.{and_true}
use Rattle.particles.specs.Pass.{Worked, code_of}
use Rattle.one_record.specs.RecordLaw.{put_state, updated_at, kept, law_at, kept_by, record_law}
use Rattle.one_record.specs.Judged.{judge_finite, verdict_after, unless_refused, judged_at, refused_record, marked, failure_law}
use Rattle.particles.specs.Bare.{bare_law, Unrefused}
use Rattle.particles.specs.Fill.{fill_law}
use Rattle.particles.specs.declared.step.Step.{Step}
use Rattle.particles.specs.declared.step.Step.TheVariants.{Plain, Judged}
use Rattle.particles.specs.Step.{step_law}
use Rattle.model.proofs.RowLaws.{not_finite_lem}
use Rattle.one_record.proofs.RecordLaws.{last_finite, law_wrong}
use Rattle.particles.proofs.PassLaws.{outcome_same}
use Rattle.particles.proofs.Written.{kept_right, take_kept}

-- not refused
abbrev pub Stands : Outcome → Type 0
Stands o = (n : ℕ) → o ≡ outcome.Refused n → ⊥

-- a record's law refuses, or is the law of its first floats
pub by_law : (m : Model) (r : List ℕ) (P : Updated → Type 0) → ((n : ℕ) (s : State) → P (refused n s))
    → (model_finite m ≡ true → record_finite r ≡ true → Unrefused m r → P (updated_at m r)) → P (law_at m r)
unfolding law_at
by_law m r P out on = go (model_finite m) (record_finite r) (determinant_right r) (finite (float_at left place_determinant)) refl refl refl refl
  where
    left : List ℕ
    left = kept m (updated_at m r).outcome r (updated_at m r).state

    go : (a b c d : Bool) → model_finite m ≡ a → record_finite r ≡ b → determinant_right r ≡ c → finite (float_at left place_determinant) ≡ d
        → P (cond (a && b) (cond c (cond d (updated_at m r) (refused no_number (updated_at m r).state)) (refused wrong_determinant (state_at r))) (refused not_finite (state_at r)))
    go true true true true p q s t = on p q (record { stored = last_finite r q; right = s; new = t })
    go true true true false p q s t = out no_number (updated_at m r).state
    go true true false d p q s t = out wrong_determinant (state_at r)
    go true false c d p q s t = out not_finite (state_at r)
    go false b c d p q s t = out not_finite (state_at r)

pub unrefused : (m : Model) (r : List ℕ) → Stands (record_law m r).outcome → Unrefused m r
unfolding record_law
unrefused m r = by_law m r (λ (d : Updated). Stands d.outcome → Unrefused m r) (λ n s h. absurd (h n refl)) (λ p q u h. u)

-- ---- every call that stores F leaves the determinant of that F, and a record that stands can be given again
abbrev pub Measured : List ℕ → Type 0
Measured r = (determinant_right r ≡ true) × (finite (float_at r place_determinant) ≡ true)

pub record_measured : (m : Model) (r : List ℕ) → length r ≡ floats → Stands (record_law m r).outcome → Measured (record_law m r).after
unfolding record_law
record_measured m r k =
    by_law m r (λ (d : Updated). Stands d.outcome → Measured (kept m d.outcome r d.state)) (λ n s h. absurd (h n refl))
    (λ p q u h. (kept_right m (updated_at m r).outcome r (updated_at m r).state k u.right, u.new))

-- a verdict's phase changes neither
marked_measured : (v : Verdict) (r : List ℕ) (w : Worked) → (Stands w.outcome → Measured w.after) → Stands (marked v r w).outcome → Measured (marked v r w).after
marked_measured No r w f h = f h
marked_measured Yes r w f h =
    let q = f h in
    (right_other w.after place_phase (bits zero) (omega arith) (λ e. omega arith) ∙ q.0, ap finite (other w.after place_phase place_determinant (bits zero) (λ e. omega arith)) ∙ q.1)
marked_measured (Refused n) r w f h = absurd (h n refl)

failure_measured : (m : Model) (l : MaximumStressFailure) (e : CorotatedLinearElasticity) (r : List ℕ) → length r ≡ floats
    → Stands (failure_law m l e r).outcome → Measured (failure_law m l e r).after
unfolding failure_law
failure_measured m l e r k = go (judge_finite l e)
  where
    go : (b : Bool) → let w = cond b (marked (judged_at m l e r) r (record_law m r)) (refused_record not_finite r) in Stands w.outcome → Measured w.after
    go true = marked_measured (judged_at m l e r) r (record_law m r) (record_measured m r k)
    go false = λ h. absurd (h not_finite refl)

pub step_measured : (s : Step) (r : List ℕ) → length r ≡ floats → Stands (step_law s r).outcome → Measured (step_law s r).after
step_measured (Plain m) r k = record_measured m r k
step_measured (Judged m l e) r k = failure_measured m l e r k

pub fill_right : (r : List ℕ) → length r ≡ floats → determinant_right (fill_law r).after ≡ true
fill_right r k = filled_right r (omega arith)

-- ---- untouched and refused records keep all their bits
kept_same : (m : Model) (o : Outcome) (r : List ℕ) (s : State) → (code_of o ≡ 1 → ⊥) → kept m o r s ≡ r
kept_same m o r s h = outcome_same o r (put_state m r s) h

pub differ : {o p : Outcome} {G : Type 0} → o ≡ p → (code_of o ≡ code_of p → ⊥) → G
differ e h = absurd (h (ap code_of e))

module _ (m : Model) (r : List ℕ) where
  abbrev Left : Verdict → Updated → Worked
  Left v d = marked (unless_refused d.outcome v) r (kept_by m d r)

  left_refused : (v : Verdict) (o : Outcome) (s : State) (n : ℕ) → let w = Left v (record { state = s; outcome = o }) in w.outcome ≡ outcome.Refused n → w.after ≡ r
  left_refused No outcome.Untouched s n h = refl
  left_refused Yes outcome.Untouched s n h = differ h (λ e. omega arith)
  left_refused (Refused k) outcome.Untouched s n h = refl
  left_refused No (outcome.Stored a) s n h = differ h (λ e. omega arith)
  left_refused Yes (outcome.Stored a) s n h = differ h (λ e. omega arith)
  left_refused (Refused k) (outcome.Stored a) s n h = refl
  left_refused v (outcome.Refused k) s n h = refl

  left_untouched : (v : Verdict) (o : Outcome) (s : State) → let w = Left v (record { state = s; outcome = o }) in w.outcome ≡ outcome.Untouched → w.failed ≡ false → w.after ≡ r
  left_untouched No outcome.Untouched s h f = refl
  left_untouched Yes outcome.Untouched s h f = absurd (true≢false f)
  left_untouched (Refused k) outcome.Untouched s h f = refl
  left_untouched No (outcome.Stored a) s h f = differ h (λ e. omega arith)
  left_untouched Yes (outcome.Stored a) s h f = differ h (λ e. omega arith)
  left_untouched (Refused k) (outcome.Stored a) s h f = refl
  left_untouched v (outcome.Refused k) s h f = refl

record_refused : (m : Model) (r : List ℕ) (n : ℕ) → (record_law m r).outcome ≡ outcome.Refused n → (record_law m r).after ≡ r
unfolding record_law
record_refused m r n h = kept_same m (law_at m r).outcome r (law_at m r).state (λ c. let z = ap code_of h in omega arith)

record_untouched : (m : Model) (r : List ℕ) → (record_law m r).outcome ≡ outcome.Untouched → (record_law m r).after ≡ r
unfolding record_law
record_untouched m r h = kept_same m (law_at m r).outcome r (law_at m r).state (λ c. let z = ap code_of h in omega arith)

module _ (m : Model) (l : MaximumStressFailure) (e : CorotatedLinearElasticity) (r : List ℕ) where
  abbrev verdict : Verdict
  verdict = verdict_after l e (state_at r).scalars.phase (law_at m r).state

  failure_refused : (n : ℕ) → (failure_law m l e r).outcome ≡ outcome.Refused n → (failure_law m l e r).after ≡ r
  unfolding record_law failure_law judged_at
  failure_refused n = go (judge_finite l e)
    where
      go : (b : Bool) → let w = cond b (Left m r verdict (law_at m r)) (refused_record not_finite r) in w.outcome ≡ outcome.Refused n → w.after ≡ r
      go true = left_refused m r verdict (law_at m r).outcome (law_at m r).state n
      go false = λ k. refl

  failure_untouched : (failure_law m l e r).outcome ≡ outcome.Untouched → (failure_law m l e r).failed ≡ false → (failure_law m l e r).after ≡ r
  unfolding record_law failure_law judged_at
  failure_untouched = go (judge_finite l e)
    where
      go : (b : Bool) → let w = cond b (Left m r verdict (law_at m r)) (refused_record not_finite r) in w.outcome ≡ outcome.Untouched → w.failed ≡ false → w.after ≡ r
      go true = left_untouched m r verdict (law_at m r).outcome (law_at m r).state
      go false = λ k q. refl

pub refused_bits : (s : Step) (r : List ℕ) (n : ℕ) → (step_law s r).outcome ≡ outcome.Refused n → (step_law s r).after ≡ r
refused_bits (Plain m) r n h = record_refused m r n h
refused_bits (Judged m l e) r n h = failure_refused m l e r n h

-- of those that did not fail
pub untouched_bits : (s : Step) (r : List ℕ) → (step_law s r).outcome ≡ outcome.Untouched → (step_law s r).failed ≡ false → (step_law s r).after ≡ r
untouched_bits (Plain m) r h f = record_untouched m r h
untouched_bits (Judged m l e) r h f = failure_untouched m l e r h f

-- ---- 11, after 1: that it comes only then is in `refusals`
pub wrong_refused : (m : Model) (r : List ℕ) → model_finite m ≡ true → record_finite r ≡ true → determinant_right r ≡ false → record_law m r ≡ refused_record wrong_determinant r
unfolding record_law
wrong_refused m r p f d = ap (λ (u : Updated). kept_by m u r) (law_wrong m r f d ∙ ap (λ (b : Bool). refused (cond b wrong_determinant not_finite) (state_at r)) p)

-- ---- the law's step on the floats before the determinant
module _ (m : Model) (r : List ℕ) where
  abbrev inputs : Bool
  inputs = inputs_finite (u_at r) (vt_at r) (state_at r)

  pub unrefused_law : Unrefused m r → law_at m r ≡ updated_at m r
  unfolding law_at updated_at
  unrefused_law u = go (model_finite m && inputs) refl
    where
      finite_is : record_finite r ≡ inputs
      finite_is = ap (λ (b : Bool). inputs && b) u.stored ∙ and_true inputs

      go : (b : Bool) → model_finite m && inputs ≡ b → law_at m r ≡ updated_at m r
      go true h = rw (finite_is, h, u.right, u.new) refl
      go false h = rw (finite_is, h) (sym (not_finite_lem (u_at r) (vt_at r) (state_at r) m h))

  bare_updated : updated_at m (take bare r) ≡ updated_at m r
  unfolding updated_at
  bare_updated = rw (bare_u r, bare_vt r, bare_state r)

  pub law_bare : Unrefused m r → ((record_law m r).outcome ≡ (bare_law m (take bare r)).outcome) × (take bare (record_law m r).after ≡ (bare_law m (take bare r)).after)
  unfolding record_law bare_law
  law_bare u =
      rw (unrefused_law u, bare_updated) (refl, take_kept m (updated_at m r).outcome r (updated_at m r).state)
