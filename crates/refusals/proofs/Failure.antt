-- The law with failure answers a record as its walk does: the law's steps, then the stresses of what it leaves. Assumes nothing.
use mathlib.Core.Path.{◌≡◌, refl, sym, ap, ◌∙◌}
use mathlib.Core.Logic.{◌⊎◌, inl, inr, ⊎_elim, ◌↔◌}
use mathlib.Core.Bool.{Bool, true, false, cond, ◌&&◌, false≢true}
use mathlib.Core.List.{List, ◌++◌}
use Prim.Native.Nat.{ℕ}
use native.Mathlib.Omega.{arith}
use lib.Ieee.{Float}
use Rattle.numbers.specs.Floats.{finite}
use Rattle.numbers.proofs.Laws.{and_both}
use Rattle.tensor.specs.Axes.{all_of}
use Rattle.tensor.specs.Finite.{row_finite}
use Rattle.tensor.specs.Answer.{answered_vector, refused_vector}
use Rattle.answers.specs.Refusals.{not_finite, wrong_determinant}
use Rattle.plasticity.specs.State as law
use Rattle.plasticity.specs.declared.Outcome.{Outcome}
use Rattle.plasticity.specs.declared.Outcome.TheVariants as outcome
use Rattle.plasticity.specs.declared.State.{State}
use Rattle.walk.specs.Walk.{◌then◌, end, Ended, given, refused, walk_result}
use Rattle.walk.specs.Exact.{and_then}
use Rattle.walk.proofs.Exact.{result_then}
use Rattle.walk.specs.Answers.{vector_as}
use Rattle.walk.proofs.Every.{all_append}
use Rattle.walk.specs.Update.{Change, untouched, stored, updated_of}
use Rattle.record.specs.Layout.{state_at, record_finite, determinant_right}
use Rattle.failure_maximum_stress.specs.declared.MaximumStressFailure.{MaximumStressFailure}
use Rattle.failure_maximum_stress.specs.declared.Verdict.{Verdict}
use Rattle.failure_maximum_stress.specs.declared.Verdict.TheVariants.{No, Yes, Refused}
use Rattle.failure_maximum_stress.specs.Failure.{limits_finite, exceeds_of, verdict_of}
use Rattle.elasticity_corotated_linear.specs.declared.CorotatedLinearElasticity.{CorotatedLinearElasticity}
use Rattle.elasticity_corotated_linear.specs.Law.{law_finite}
use Rattle.elasticity_corotated_linear.proofs.Laws.{principal_law}
use Rattle.model.specs.declared.Model.{Model}
use Rattle.model.specs.Model.{model_finite}
use Rattle.plasticity.specs.declared.Updated.{Updated}
use Rattle.particles.specs.declared.step.Step.TheVariants.{Judged}
use Rattle.particles.specs.Pass.{Worked}
use Rattle.one_record.specs.RecordLaw.{kept_by, law_at, record_law}
use Rattle.one_record.specs.Judged.{verdict_on, judge_finite, verdict_after, unless_refused, judged_at, refused_record, marked, failure_law}
use Rattle.refusals.specs.Refusals.{SomeNotFinite, RecordNotFinite, without, parameters_of, record_floats, record_steps, failure_of, left_by, stresses_of, failure_steps, failure_walk, StepRefuses}
use Rattle.refusals.proofs.Inner.{inner_then, principal_inner}
use Rattle.refusals.proofs.Inputs.{some_append}
use Rattle.refusals.proofs.Updates.{record_inputs, steps_by, law_one_first, law_eleven_next, record_inner, outcome_record, input_places}

-- ---- the inputs
five : (a b c d e : Bool) → a && b && c && d && e ≡ (a && b) && (c && d && e)
five true true c d e = refl
five true false c d e = refl
five false b c d e = refl

-- principal stresses that are handed out are finite
handed : (v w : List Float) (b : Bool) → row_finite w ≡ b → vector_as (given v) ≡ cond b (record { refusal = 0; vector = w }) (refused_vector 3) → row_finite v ≡ true
handed v w true e q = ap (λ a. row_finite a.vector) q ∙ e
handed v w false e q = absurd (let z = ap (λ a. a.refusal) q in omega arith)

stresses_finite : (x : Ended (List Float)) (w : List Float) → vector_as x ≡ answered_vector w → (v : List Float) → x ≡ given v → row_finite v ≡ true
unfolding answered_vector
stresses_finite x w e v q = handed v w (row_finite w) refl (sym (ap vector_as q) ∙ e)

module _ (m : Model) (l : MaximumStressFailure) (e : CorotatedLinearElasticity) (r : List ℕ) (q : limits_finite l ≡ true) where
  abbrev s : State
  s = state_at r

  -- a yes and a no keep the law's outcome
  verdict : (limits row over : Bool) → limits ≡ true → row ≡ true → (w : Worked) → (marked (cond (limits && row) (cond over Yes No) (Refused 1)) r w).outcome ≡ w.outcome
  verdict true true true f p w = refl
  verdict true true false f p w = refl
  verdict true false over f p w = absurd (false≢true p)
  verdict false row over f p w = absurd (false≢true f)

  -- on the stresses, or on their refusal
  on_stresses : (c : Change) (x : Ended (List Float)) → ((v : List Float) → x ≡ given v → row_finite v ≡ true)
      → (marked (verdict_on l x) r (kept_by m (updated_of s (given c)) r)).outcome ≡ (updated_of s (and_then x (λ v. given c))).outcome
  unfolding verdict_of
  on_stresses c (given v) p = verdict (limits_finite l) (row_finite v) (exceeds_of l v) q (p v refl) (kept_by m (updated_of s (given c)) r)
  on_stresses c (refused n) p = refl

  judged_stresses : (c : Change) → (marked (verdict_after l e s.scalars.phase (left_by r c)) r (kept_by m (updated_of s (given c)) r)).outcome ≡ (updated_of s (walk_result (stresses_of e r c then (λ v. end c)))).outcome
  unfolding verdict_after
  judged_stresses c =
      let t = left_by r c in
      on_stresses c (walk_result (stresses_of e r c)) (stresses_finite (walk_result (stresses_of e r c)) _ (principal_law e s.scalars.phase t.scalars.elastic_hardening t.sigma))
      ∙ ap (λ x. (updated_of s x).outcome) (sym (result_then (stresses_of e r c) (λ v. end c)))

  -- on what the law leaves, or on its refusal
  on_law : (x : Ended Change) → (marked (unless_refused (updated_of s x).outcome (verdict_after l e s.scalars.phase (updated_of s x).state)) r (kept_by m (updated_of s x) r)).outcome
      ≡ (updated_of s (and_then x (λ c. walk_result (stresses_of e r c then (λ v. end c))))).outcome
  on_law (given untouched) = judged_stresses untouched
  on_law (given (stored new a)) = judged_stresses (stored new a)
  on_law (refused n) = refl

module _ (m : Model) (l : MaximumStressFailure) (e : CorotatedLinearElasticity) (r : List ℕ) where
  abbrev inner : Bool
  inner = model_finite m && record_finite r

  pub all_inputs : all_of finite (failure_of l e ++ (parameters_of m ++ record_floats r)) ≡ judge_finite l e && inner
  all_inputs =
      all_append finite (failure_of l e) (parameters_of m ++ record_floats r)
      ∙ rw (record_inputs m r, five (finite l.max_principal_stress) (finite l.max_shear_stress) (finite e.cfl_coeff) (finite e.lambda) (finite e.mu)) refl

  abbrev Law : Updated → Worked
  Law d = marked (unless_refused d.outcome (verdict_after l e (state_at r).scalars.phase d.state)) r (kept_by m d r)

  steps : judge_finite l e ≡ true → inner ≡ true → determinant_right r ≡ true → (Law (law_at m r)).outcome ≡ (updated_of (state_at r) (walk_result (failure_steps m e r))).outcome
  steps f i d =
      steps_by m r (λ v. (Law v).outcome) (λ n t u. refl) i d
      ∙ on_law m l e r (and_both (limits_finite l) (law_finite e) f).0 (walk_result (record_steps m r))
      ∙ ap (λ x. (updated_of (state_at r) x).outcome) (sym (result_then (record_steps m r) (λ c. stresses_of e r c then (λ v. end c))))

  first : determinant_right r ≡ true → (f i : Bool) → judge_finite l e ≡ f → inner ≡ i
      → (cond f (Law (law_at m r)) (refused_record 1 r)).outcome ≡ (updated_of (state_at r) (cond (f && i) (walk_result (failure_steps m e r)) (refused 1))).outcome
  first d true true p q = steps p q d
  first d true false p q = ap (λ v. (Law v).outcome) (law_one_first m r q)
  first d false i p q = refl

  pub failure_walked : determinant_right r ≡ true → (failure_law m l e r).outcome ≡ (updated_of (state_at r) (walk_result (failure_walk m l e r))).outcome
  unfolding failure_law judged_at record_law
  failure_walked d =
      first d (judge_finite l e) inner refl refl ∙ ap (λ b. (updated_of (state_at r) (cond b (walk_result (failure_steps m e r)) (refused 1))).outcome) (sym all_inputs)

  wrong : (f i : Bool) → (cond f (Law (cond i (law.refused wrong_determinant (state_at r)) (law.refused not_finite (state_at r)))) (refused_record not_finite r)).outcome
      ≡ cond (f && i) (outcome.Refused wrong_determinant) (outcome.Refused not_finite)
  wrong true true = refl
  wrong true false = refl
  wrong false i = refl

  pub failure_wrong : determinant_right r ≡ false
      → (failure_law m l e r).outcome ≡ cond (all_of finite (failure_of l e ++ (parameters_of m ++ record_floats r))) (outcome.Refused wrong_determinant) (outcome.Refused not_finite)
  unfolding failure_law judged_at record_law
  failure_wrong d =
      ap (λ v. (cond (judge_finite l e) (Law v) (refused_record not_finite r)).outcome) (law_eleven_next m r d) ∙ wrong (judge_finite l e) inner
      ∙ ap (λ b. cond b (outcome.Refused wrong_determinant) (outcome.Refused not_finite)) (sym all_inputs)

  pub failure_refuses : StepRefuses (failure_law m l e r).outcome (without (Judged m l e)) r
  failure_refuses =
      let s = state_at r in
      outcome_record s (failure_law m l e r).outcome (determinant_right r) (failure_of l e ++ (parameters_of m ++ record_floats r)) (failure_steps m e r)
      (inner_then (record_steps m r) _ (record_inner m r)
      (λ c. let t = left_by r c in inner_then (stresses_of e r c) _ (principal_inner e s.scalars.phase t.scalars.elastic_hardening t.sigma) (λ v. tt)))
      failure_walked failure_wrong

  failure_places : SomeNotFinite (failure_of l e ++ (parameters_of m ++ record_floats r)) ↔ (SomeNotFinite (failure_of l e) ⊎ (SomeNotFinite (parameters_of m) ⊎ RecordNotFinite r))
  failure_places =
      let w = some_append (failure_of l e) (parameters_of m ++ record_floats r) in (
        λ q. ⊎_elim (λ p. inl p) (λ p. inr ((input_places m r).0 p)) (w.0 q),
        λ q. w.1 (⊎_elim (λ p. inl p) (λ p. inr ((input_places m r).1 p)) q),
      )

  pub failure_one : ((failure_law m l e r).outcome ≡ outcome.Refused 1) ↔ (SomeNotFinite (failure_of l e) ⊎ (SomeNotFinite (parameters_of m) ⊎ RecordNotFinite r))
  failure_one = (λ q. failure_places.0 (failure_refuses.one.0 q), λ q. failure_refuses.one.1 (failure_places.1 q))

  pub failure_eleven : ((failure_law m l e r).outcome ≡ outcome.Refused wrong_determinant)
      ↔ ((SomeNotFinite (failure_of l e) ⊎ (SomeNotFinite (parameters_of m) ⊎ RecordNotFinite r) → ⊥) × (determinant_right r ≡ false))
  failure_eleven =
      let w = failure_refuses.eleven in
      let p = failure_places in
      (λ x. let q = w.0 x in (λ z. q.0 (p.1 z), q.1), λ q. w.1 (λ z. q.0 (p.0 z), q.1))
