-- Each law answers a record as its walk does. Assumes nothing.
use mathlib.Core.Path.{◌≡◌, refl, sym, ap, ◌∙◌}
use mathlib.Core.Bool.{Bool, true, false, cond, ◌&&◌, true≢false}
use mathlib.Core.Logic.{◌⊎◌, inl, inr, ⊎_elim, ◌↔◌}
use mathlib.Core.List.{List, [], ◌∷◌, ◌++◌}
use Prim.Native.Nat.{ℕ}
use native.Mathlib.Omega.{arith}
use lib.Ieee.{Float}
use Rattle.numbers.specs.Floats.{finite}
use Rattle.numbers.proofs.Laws.{and_both}
use Rattle.answers.specs.Refusals.{not_finite, wrong_determinant}
use Rattle.tensor.specs.Axes.{all_of}
use Rattle.plasticity.specs.State as law
use Rattle.plasticity.specs.declared.Updated.{Updated}
use Rattle.plasticity.specs.declared.Outcome.{Outcome}
use Rattle.plasticity.specs.declared.Outcome.TheVariants.{Stored, Refused}
use Rattle.plasticity.specs.declared.State.{State}
use Rattle.walk.specs.Walk.{Walk, inputs, Ended, given, refused, walk_result}
use Rattle.walk.specs.Exact.{path, and_then}
use Rattle.walk.proofs.Exact.{result_then}
use Rattle.walk.proofs.Every.{all_append}
use Rattle.walk.proofs.Numbers.{as_outcome}
use Rattle.walk.specs.Update.{in_three, Change, untouched, stored, updated_of, refusal_of, floats_of}
use Rattle.walk.specs.Answers.{refusal_in}
use Rattle.record.specs.Layout.{place_determinant, float_at, u_at, vt_at, state_at, record_finite, determinant_right}
use Rattle.record.proofs.Parts as parts
use Rattle.walk.proofs.Body.{floats_finite}
use Rattle.model.specs.declared.Model.{Model}
use Rattle.model.specs.Model.{model_finite}
use Rattle.model.proofs.RowLaws.{parameters_finite_lem, walked}
use Rattle.particles.specs.declared.step.Step.TheVariants.{Plain}
use Rattle.particles.specs.Pass.{value_of}
use Rattle.one_record.specs.RecordLaw.{put_state, updated_at, measured, law_at, record_law}
use Rattle.one_record.proofs.RecordLaws.{last_finite, law_right}
use Rattle.refusals.specs.Refusals.{SomeNotFinite, RecordNotFinite, without, parameters_of, steps_of, walk_of, record_floats, measure_walk, record_steps, record_walk, Refuses, RecordNumbers, StepRefuses}
use Rattle.refusals.proofs.Inner.{Inner, inner_then, steps_inner}
use Rattle.refusals.proofs.Inputs.{some_append, places}
use Rattle.refusals.proofs.Numbers.{not_finite_lem, told, by_one, by_eleven, by_law}

-- ---- an outcome's number
outcome_told : (s : State) (x : Ended Change) → refusal_of (updated_of s x).outcome ≡ refusal_in x
outcome_told s (given untouched) = refl
outcome_told s (given (stored new a)) = refl
outcome_told s (refused n) = refl

pub outcome_numbers : (s : State) (o : Outcome) (l : List Float) (w : Walk Change) → Inner w → o ≡ (updated_of s (walk_result (inputs l w))).outcome
    → Refuses o (path (inputs l w))
outcome_numbers s o l w h e = told refusal_of Refused (λ n. refl) as_outcome o l w h (ap refusal_of e ∙ outcome_told s (walk_result (inputs l w)))

-- ---- the inputs of a record
pub floats_of_lem : (r : List ℕ) → all_of finite (record_floats r) ≡ record_finite r
floats_of_lem r =
    let x = float_at r place_determinant in
    all_append finite (floats_of (u_at r) (vt_at r) (state_at r)) (x ∷ []) ∙ ap (λ b. b && finite x) (floats_finite in_three (u_at r) (vt_at r) (state_at r))

pub record_inputs : (m : Model) (r : List ℕ) → all_of finite (parameters_of m ++ record_floats r) ≡ model_finite m && record_finite r
record_inputs m r = all_append finite (parameters_of m) (record_floats r) ∙ rw (parameters_finite_lem m, floats_of_lem r) refl

-- ---- a record's law, where 1 and 11 don't come: F tells of it, and of a refusal only the number
module _ (m : Model) (r : List ℕ) (F : Updated → Outcome) (by : (n : ℕ) (t u : State) → F (law.refused n t) ≡ F (law.refused n u)) where
  abbrev s : State
  s = state_at r

  result_measured : (new : State) (a : Float) (b : Bool)
      → F (cond b (record { state = new; outcome = Stored a }) (law.refused 3 new)) ≡ F (updated_of s (cond b (given (stored new a)) (refused 3)))
  result_measured new a true = refl
  result_measured new a false = by 3 new s

  measured_by : finite (float_at r place_determinant) ≡ true → (x : Ended Change)
      → F (measured m r (updated_of s x)) ≡ F (updated_of s (and_then x (λ c. walk_result (measure_walk m r c))))
  measured_by q (given untouched) = rw q refl
  measured_by q (given (stored new a)) = result_measured new a (finite (float_at (put_state m r new) place_determinant))
  measured_by q (refused n) = rw q refl

  -- the law's own inputs are among the record's
  ran : model_finite m && record_finite r ≡ true → updated_at m r ≡ updated_of s (walk_result (steps_of m (u_at r) (vt_at r) s))
  unfolding updated_at
  ran h =
      let t = and_both (model_finite m) (record_finite r) h in
      let i : all_of finite (parameters_of m ++ floats_of (u_at r) (vt_at r) s) ≡ true =
      all_append finite (parameters_of m) (floats_of (u_at r) (vt_at r) s) ∙ rw (parameters_finite_lem m, floats_finite in_three (u_at r) (vt_at r) s, t.0, parts.record_inputs r t.1) refl in
      walked m (u_at r) (vt_at r) s ∙ ap (λ b. updated_of s (cond b (walk_result (steps_of m (u_at r) (vt_at r) s)) (refused 1))) i

  pub steps_by : model_finite m && record_finite r ≡ true → determinant_right r ≡ true → F (law_at m r) ≡ F (updated_of s (walk_result (record_steps m r)))
  steps_by h d =
      let t = and_both (model_finite m) (record_finite r) h in
      ap F (law_right m r t.1 d ∙ ap (measured m r) (ran h))
      ∙ measured_by (last_finite r t.1) (walk_result (steps_of m (u_at r) (vt_at r) s))
      ∙ ap (λ x. F (updated_of s x)) (sym (result_then (steps_of m (u_at r) (vt_at r) s) (measure_walk m r)))

-- where the inputs aren't finite, and where the determinant is wrong
pub law_one_first : (m : Model) (r : List ℕ) → model_finite m && record_finite r ≡ false → law_at m r ≡ law.refused not_finite (state_at r)
unfolding law_at
law_one_first m r h = rw h refl

pub law_eleven_next : (m : Model) (r : List ℕ) → determinant_right r ≡ false
    → law_at m r ≡ cond (model_finite m && record_finite r) (law.refused wrong_determinant (state_at r)) (law.refused not_finite (state_at r))
unfolding law_at
law_eleven_next m r d = rw d refl

pub record_walked : (m : Model) (r : List ℕ) → determinant_right r ≡ true → (record_law m r).outcome ≡ (updated_of (state_at r) (walk_result (record_walk m r))).outcome
unfolding record_law
record_walked m r d = go (model_finite m && record_finite r) refl
  where
    go : (b : Bool) → model_finite m && record_finite r ≡ b → (law_at m r).outcome ≡ (updated_of (state_at r) (walk_result (record_walk m r))).outcome
    go true h = steps_by m r (λ v. v.outcome) (λ n t u. refl) h d ∙ ap (λ b. (updated_of (state_at r) (cond b (walk_result (record_steps m r)) (refused 1))).outcome) (sym (record_inputs m r ∙ h))
    go false h = ap (λ v. v.outcome) (law_one_first m r h) ∙ ap (λ b. (updated_of (state_at r) (cond b (walk_result (record_steps m r)) (refused 1))).outcome) (sym (record_inputs m r ∙ h))

-- ---- the numbers of a record's outcome o
pub same_number : (o : Outcome) (m n : ℕ) → o ≡ Refused m → o ≡ Refused n → m ≡ n
same_number o m n p q = ap value_of (sym p ∙ q)

-- the steps test no inputs, nor does the determinant
measure_inner : (m : Model) (r : List ℕ) (c : Change) → Inner (measure_walk m r c)
measure_inner m r untouched = tt
measure_inner m r (stored new a) = tt

pub record_inner : (m : Model) (r : List ℕ) → Inner (record_steps m r)
record_inner m r = inner_then (steps_of m (u_at r) (vt_at r) (state_at r)) (measure_walk m r) (steps_inner m (u_at r) (vt_at r) (state_at r)) (measure_inner m r)

pub outcome_record : (s : State) (o : Outcome) (right : Bool) (l : List Float) (w : Walk Change) → Inner w
    → (right ≡ true → o ≡ (updated_of s (walk_result (inputs l w))).outcome) → (right ≡ false → o ≡ cond (all_of finite l) (Refused wrong_determinant) (Refused not_finite))
    → RecordNumbers (λ n. o ≡ Refused n) l right true (path (inputs l w))
outcome_record s o right l w h f g = go right (all_of finite l) refl refl
  where
    go : (d b : Bool) → right ≡ d → all_of finite l ≡ b → RecordNumbers (λ n. o ≡ Refused n) l right true (path (inputs l w))
    go true true d k =
        let q = outcome_numbers s o l w h (f d) in
        let fine : SomeNotFinite l → ⊥ = λ z. true≢false (sym k ∙ (not_finite_lem l).1 z) in
        by_law (same_number o) fine d refl (λ e. fine (q.one.0 e)) q
    go true false d k = by_one (same_number o) ((outcome_numbers s o l w h (f d)).one.1 ((not_finite_lem l).0 k)) ((not_finite_lem l).0 k)
    go false true d k =
        by_eleven (same_number o) (g d ∙ ap (λ b. cond b (Refused wrong_determinant) (Refused not_finite)) k) (λ z. true≢false (sym k ∙ (not_finite_lem l).1 z)) d
    go false false d k = by_one (same_number o) (g d ∙ ap (λ b. cond b (Refused wrong_determinant) (Refused not_finite)) k) ((not_finite_lem l).0 k)

told_by : (b : Bool) (s : State) → (cond b (law.refused wrong_determinant s) (law.refused not_finite s)).outcome ≡ cond b (Refused wrong_determinant) (Refused not_finite)
told_by true s = refl
told_by false s = refl

pub law_refuses : (m : Model) (r : List ℕ) → StepRefuses (record_law m r).outcome (without (Plain m)) r
unfolding record_law
law_refuses m r =
    outcome_record (state_at r) (record_law m r).outcome (determinant_right r) (parameters_of m ++ record_floats r) (record_steps m r) (record_inner m r) (record_walked m r)
    (λ d. ap (λ v. v.outcome) (law_eleven_next m r d) ∙ told_by (model_finite m && record_finite r) (state_at r)
    ∙ ap (λ b. cond b (Refused wrong_determinant) (Refused not_finite)) (sym (record_inputs m r)))

-- ---- 1 by place
pub input_places : (m : Model) (r : List ℕ) → SomeNotFinite (parameters_of m ++ record_floats r) ↔ (SomeNotFinite (parameters_of m) ⊎ RecordNotFinite r)
input_places m r =
    let w = some_append (parameters_of m) (record_floats r) in (
      λ q. ⊎_elim (λ p. inl p) (λ p. inr ((places r).0 p)) (w.0 q),
      λ q. w.1 (⊎_elim (λ p. inl p) (λ p. inr ((places r).1 p)) q),
    )

pub law_one : (m : Model) (r : List ℕ) → ((record_law m r).outcome ≡ Refused 1) ↔ (SomeNotFinite (parameters_of m) ⊎ RecordNotFinite r)
law_one m r = (λ e. (input_places m r).0 ((law_refuses m r).one.0 e), λ q. (law_refuses m r).one.1 ((input_places m r).1 q))

pub law_eleven : (m : Model) (r : List ℕ)
    → ((record_law m r).outcome ≡ Refused wrong_determinant) ↔ ((SomeNotFinite (parameters_of m) ⊎ RecordNotFinite r → ⊥) × (determinant_right r ≡ false))
law_eleven m r =
    let w = (law_refuses m r).eleven in
    let p = input_places m r in
    (λ e. let q = w.0 e in (λ z. q.0 (p.1 z), q.1), λ q. w.1 (λ z. q.0 (p.0 z), q.1))
