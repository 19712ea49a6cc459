-- Section 6's table.
use mathlib.Core.Path.{◌≡◌, refl, sym, ◌∙◌}
use mathlib.Core.Logic.{◌⊎◌, inl, inr, ⊎_elim}
use mathlib.Core.Bool.{Bool, true, false, cond, ◌&&◌, false≢true}
use mathlib.Core.List.{List, [], ◌∷◌}
use Prim.Native.Nat.{ℕ, ◌*◌, ◌/◌}
use native.Mathlib.Omega.{arith}
use borrow.Author.Tests.{eq-eqb, eqb-true}
use lib.Dec.{eqb}
use lib.ListN.{length}
use lib.Ieee.{Float}
use Rattle.numbers.specs.Floats.{finite, is_number}
use Rattle.answers.specs.Refusals.{not_finite, no_number}
use Rattle.answers.specs.Range.{in_range, side_of, ranged, bare}
use Rattle.answers.specs.declared.Answer.{Answer}
use Rattle.answers.specs.declared.Answer.TheVariants.{Value, Refused}
use Rattle.tensor.specs.Axes.{all_of}
use Rattle.plasticity.specs.declared.Outcome.TheVariants as outcome
use Rattle.walk.specs.Expr.{num, value}
use Rattle.numbers.proofs.Laws.{finite_number}
use Rattle.walk.specs.Walk as walk
use Rattle.walk.specs.Walk.{Function, low_of, high_of, at, ask, end}
use Rattle.walk.specs.Answers.{refusal_in}
use Rattle.record.specs.Layout.{floats, record_finite, determinant_right}
use Rattle.model.specs.Model.{model_finite}
use Rattle.particles.specs.declared.step.Step.TheVariants.{Plain, Judged}
use Rattle.particles.specs.declared.list.Passed.TheVariants as pass
use Rattle.particles.specs.declared.failure.PassedWithFailure.TheVariants as failure_pass
use Rattle.one_record.specs.RecordLaw.{record_law}
use Rattle.one_record.specs.Judged.{judge_finite, failure_law}
use Rattle.particles.specs.Fill.{fill_answer}
use Rattle.particles.specs.Pass.{counts, three_of, whole_records, passed, passed_with_failure}
use Rattle.factored_particles.specs.declared.step.FactoredStep.TheVariants.{Factors, First}
use Rattle.refusals.specs.Refusals.{inputs_of, path_of, failure_path, AnyStep, without, with_factors_case, any_law, step_path, checked_by, StepRefuses, Gives, call_path, Pass, Lent, Filled, Section6}
use Rattle.refusals.proofs.Inputs.{no_both, decide}
use Rattle.refusals.proofs.Numbers.{not_finite_lem}
use Rattle.refusals.proofs.Updates.{record_inputs, law_refuses, law_one, law_eleven}
use Rattle.refusals.proofs.Failure.{all_inputs, failure_refuses, failure_one, failure_eleven}
use Rattle.refusals.proofs.Factored.{factor_refuses, factored_refuses}
use Rattle.refusals.proofs.Passes.{pass_eight, failure_eight, pass_refuses}
use Rattle.refusals.proofs.Answers.{refusal_e, gives}

-- ---- an elementary function by itself: a finite argument is a number
asked : (a b c : Bool) (n : ℕ) (v : Float) → (a ≡ true → b ≡ true)
    → refusal_e (cond a (cond c (Value v) (Refused n)) (Refused not_finite))
    ≡ refusal_in (cond a (walk.asked (cond b (cond c (Value v) (Refused n)) (Refused no_number)) (λ y. walk.given y)) (walk.refused not_finite))
asked true true true n v h = refl
asked true true false n v h = refl
asked true false c n v h = absurd (false≢true (h refl))
asked false b c n v h = refl

call_gives : (f : Function) (x : Float) → Gives (bare x (ranged (low_of f) (high_of f) x (at f x))) (call_path f x)
call_gives f x =
    gives (bare x (ranged (low_of f) (high_of f) x (at f x))) (x ∷ []) (ask 1 f (num x) (λ v. end (value v))) (λ v. tt)
    (asked (finite x) (is_number x) (in_range (low_of f) (high_of f) x) (side_of (low_of f) (high_of f) x) (at f x) (finite_number x))

-- ---- a record by each step
judged_inputs : (a b c : Bool) → a && (b && c) ≡ (b && a) && c
judged_inputs true true c = refl
judged_inputs true false c = refl
judged_inputs false true c = refl
judged_inputs false false c = refl

step_refuses : (s : AnyStep) (r : List ℕ) → StepRefuses (any_law s r).outcome s r
step_refuses (without (Plain m)) r = law_refuses m r
step_refuses (without (Judged m l e)) r = failure_refuses m l e r
step_refuses (with_factors_case Factors) r = factor_refuses r
step_refuses (with_factors_case (First (Plain m))) r = factored_refuses (model_finite m) (record_law m) (path_of m) (record_inputs m) (law_refuses m) r
step_refuses (with_factors_case (First (Judged m l e))) r =
    factored_refuses (model_finite m && judge_finite l e) (failure_law m l e) (failure_path m l e)
    (λ q. all_inputs m l e q ∙ judged_inputs (judge_finite l e) (model_finite m) (record_finite q)) (failure_refuses m l e) r

-- ---- one record lent by itself
no_eight : (s : AnyStep) (r : List ℕ) → (any_law s r).outcome ≡ outcome.Refused 8 → ⊥
no_eight s r e = rest (decide (all_of finite (inputs_of (step_path s r)))) (decide (determinant_right r)) (decide (checked_by s r))
  where
    q : StepRefuses (any_law s r).outcome s r
    q = step_refuses s r

    other : (n : ℕ) → (n ≡ 8 → ⊥) → (any_law s r).outcome ≡ outcome.Refused n → ⊥
    other n h z = h (q.alone n 8 z e)

    rest : ◌⊎◌ (all_of finite (inputs_of (step_path s r)) ≡ true) (all_of finite (inputs_of (step_path s r)) ≡ false) → ◌⊎◌ (determinant_right r ≡ true) (determinant_right r ≡ false)
        → ◌⊎◌ (checked_by s r ≡ true) (checked_by s r ≡ false) → ⊥
    rest (inr z) b c = other 1 (λ k. omega arith) (q.one.1 ((not_finite_lem (inputs_of (step_path s r))).0 z))
    rest (inl t) (inr d) c = other 11 (λ k. omega arith) (q.eleven.1 (λ z. no_both (all_of finite (inputs_of (step_path s r))) t ((not_finite_lem (inputs_of (step_path s r))).1 z), d))
    rest (inl t) (inl d) (inr k) = other 14 (λ k. omega arith) (q.fourteen.1 (λ z. no_both (all_of finite (inputs_of (step_path s r))) t ((not_finite_lem (inputs_of (step_path s r))).1 z), d, k))
    rest (inl t) (inl d) (inl k) =
        ⊎_elim (λ z. omega arith) (λ z. omega arith) ((q.goes_on (λ z. no_both (all_of finite (inputs_of (step_path s r))) t ((not_finite_lem (inputs_of (step_path s r))).1 z)) d k).only 8 e)

lent : (s : AnyStep) (r : List ℕ) → Lent s (cond (eqb (length r) floats) (any_law s r).outcome (outcome.Refused 8)) r
lent s r = go (eqb (length r) floats) refl
  where
    go : (b : Bool) → eqb (length r) floats ≡ b → Lent s (cond b (any_law s r).outcome (outcome.Refused 8)) r
    go true e = record { eight = (λ q. absurd (no_eight s r q), λ h. absurd (h (eqb-true (length r) floats e))); numbers = λ k. step_refuses s r }
    go false e =
        let h : length r ≡ floats → ⊥ = λ k. no_both (eqb (length r) floats) (eq-eqb (length r) floats k) e in
        record { eight = (λ q. h, λ q. refl); numbers = λ k. absurd (h k) }

-- ---- determinants filled in
whole : (xs : List ℕ) (k : ℕ) → length xs ≡ k * floats → whole_records (length xs) ≡ true
whole xs k e = eq-eqb (length xs / floats * floats) (length xs) (omega arith)

fills : (xs : List ℕ) → Filled (fill_answer xs) xs
fills xs = go (whole_records (length xs)) refl
  where
    go : (b : Bool) → whole_records (length xs) ≡ b → Filled (cond b 0 8) xs
    go true e = record { eight = (λ q. absurd (omega arith), λ h. absurd (h (length xs / floats) (sym (eqb-true (length xs / floats * floats) (length xs) e)))); only = λ h. refl }
    go false e = record { eight = (λ q k z. no_both (whole_records (length xs)) (whole xs k z) e, λ h. refl); only = λ h. absurd (h refl) }

-- ---- the table
module _ (s : AnyStep) (xs out : List ℕ) where
  pass_by : Pass s (λ n. passed (any_law s) xs out ≡ pass.Refused n) xs out
  pass_by = pass_refuses s _ xs out (step_refuses s) (pass_eight (three_of (counts (any_law s) xs (length xs / floats))) xs out)

  judged_by : Pass s (λ n. passed_with_failure (any_law s) xs out ≡ failure_pass.Refused n) xs out
  judged_by = pass_refuses s _ xs out (step_refuses s) (failure_eight (counts (any_law s) xs (length xs / floats)) xs out)

pub section_6 : Section6
section_6 =
    record {
      step = step_refuses;
      law_one = law_one;
      law_eleven = law_eleven;
      failure_one = failure_one;
      failure_eleven = failure_eleven;
      one_record_lem = λ m r. lent (without (Plain m)) r;
      one_factored = λ r. lent (with_factors_case Factors) r;
      filled = fills;
      the_pass = λ m. pass_by (without (Plain m));
      the_pass_with_failure = λ m l e. judged_by (without (Judged m l e));
      the_factor_list = pass_by (with_factors_case Factors);
      the_pass_factored = λ m. pass_by (with_factors_case (First (Plain m)));
      the_pass_factored_with_failure = λ m l e. judged_by (with_factors_case (First (Judged m l e)));
      call = call_gives;
    }
