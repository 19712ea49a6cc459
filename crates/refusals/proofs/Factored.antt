-- The steps with our own factors: 1, then 11, then 14, then the law's numbers on the record with these factors, which is as finite as the record that came.
-- Assumes nothing.
use mathlib.Core.Path.{◌≡◌, refl, sym, ap, subst, ◌∙◌}
use mathlib.Core.Bool.{Bool, true, false, cond, ◌&&◌, true≢false}
use mathlib.Core.List.{List}
use Prim.Native.Nat.{ℕ, zero}
use native.Mathlib.Omega.{arith}
use lib.Ieee.{Float}
use Rattle.numbers.specs.Floats.{finite}
use Rattle.answers.specs.Refusals.{not_finite, wrong_determinant, not_accepted}
use Rattle.tensor.specs.Axes.{all_of}
use Rattle.tensor.specs.Matrix as tensor
use Rattle.plasticity.specs.declared.Outcome.{Outcome}
use Rattle.plasticity.specs.declared.Outcome.TheVariants.{Stored, Refused}
use Rattle.walk.specs.Walk as walk
use Rattle.walk.specs.Walk.{inputs, end}
use Rattle.walk.specs.Exact.{Met, path}
use Rattle.walk.specs.Answers.{refusal_in}
use Rattle.record.specs.Layout.{record_finite, determinant_right}
use Rattle.factors.specs.declared.Factors.{Factors}
use Rattle.particles.specs.Pass.{Worked, code_of}
use Rattle.factored_particles.specs.declared.step.FactoredStep.TheVariants as steps
use Rattle.factored_particles.specs.Factored.{with_factors, factor_refusal, factor_law, factored_law}
use Rattle.factored_particles.proofs.Determinants.{factors_measured}
use Rattle.factored_particles.proofs.Fourteen as fourteen
use Rattle.factored_particles.proofs.StillFinite.{still_finite}
use Rattle.refusals.specs.Refusals.{SomeNotFinite, inputs_of, record_floats, with_factors_case, checked_at, Numbers, RecordNumbers, StepRefuses}
use Rattle.refusals.proofs.Numbers.{not_finite_lem, nothing, numbers, by_one, by_eleven, by_fourteen, by_law}
use Rattle.refusals.proofs.Updates.{floats_of_lem, same_number}

-- ---- by themselves
stored_not : (x : Float) (n : ℕ) → Stored x ≡ Refused n → ⊥
stored_not x n e = let z = ap code_of e in omega arith

nothing_met : (r : List ℕ) (l : List Float) → all_of finite l ≡ true → Numbers (λ n. Stored tensor.zero ≡ Refused n) (path (inputs l (end r)))
nothing_met r l f =
    numbers l (end r) tt (λ n. (λ q. absurd (stored_not tensor.zero n q), λ q. absurd (nothing n (sym (ap (λ b. refusal_in (cond b (walk.given r) (walk.refused 1))) f) ∙ q))))

pub factor_refuses : (r : List ℕ) → StepRefuses (factor_law r).outcome (with_factors_case steps.Factors) r
factor_refuses r = go (record_finite r) (determinant_right r) (checked_at r) refl refl refl
  where
    off : (n : ℕ) → factor_refusal r ≡ n → (n ≡ 0 → ⊥) → (factor_law r).outcome ≡ Refused n
    off n e h = ap (λ (w : Worked). w.outcome) (fourteen.refused r n e h)

    fine : record_finite r ≡ true → SomeNotFinite (record_floats r) → ⊥
    fine q z = true≢false (sym (floats_of_lem r ∙ q) ∙ (not_finite_lem (record_floats r)).1 z)

    go : (a b c : Bool) → record_finite r ≡ a → determinant_right r ≡ b → checked_at r ≡ c → StepRefuses (factor_law r).outcome (with_factors_case steps.Factors) r
    go false b c q d k = by_one (same_number (factor_law r).outcome) (off not_finite (fourteen.one r q) (λ z. omega arith)) ((not_finite_lem (record_floats r)).0 (floats_of_lem r ∙ q))
    go true false c q d k = by_eleven (same_number (factor_law r).outcome) (off wrong_determinant (fourteen.eleven r q d) (λ z. omega arith)) (fine q) d
    go true true false q d k = by_fourteen (same_number (factor_law r).outcome) (off not_accepted (fourteen.fourteen r q d k) (λ z. omega arith)) (fine q) d k
    go true true true q d k =
        let e : (factor_law r).outcome ≡ Stored tensor.zero = ap (λ (w : Worked). w.outcome) (fourteen.stored r (fourteen.none r q d k)) in
        by_law (same_number (factor_law r).outcome) (fine q) d k (λ z. stored_not tensor.zero 1 (sym e ∙ z))
        (subst (λ (o : Outcome). Numbers (λ n. o ≡ Refused n) (path (inputs (record_floats r) (end r)))) (sym e) (nothing_met r (record_floats r) (floats_of_lem r ∙ q)))

-- ---- before a step
module _ (own : Bool) (step : List ℕ → Worked) (ms : List ℕ → List Met) (tested : (q : List ℕ) → all_of finite (inputs_of (ms q)) ≡ own && record_finite q)
    (law : (q : List ℕ) → RecordNumbers (λ n. (step q).outcome ≡ Refused n) (inputs_of (ms q)) (determinant_right q) true (ms q)) (r : List ℕ) where
  abbrev answer : Outcome
  answer = (factored_law own step r).outcome

  abbrev Result : Type 0
  Result = RecordNumbers (λ n. answer ≡ Refused n) (inputs_of (ms r)) (determinant_right r) (checked_at r) (ms (with_factors r))

  fine_at : (q : List ℕ) → own ≡ true → record_finite q ≡ true → SomeNotFinite (inputs_of (ms q)) → ⊥
  fine_at q p f z = true≢false (sym (tested q ∙ ap (λ b. b && record_finite q) p ∙ f) ∙ (not_finite_lem (inputs_of (ms q))).1 z)

  by_factors : own ≡ true → (n : ℕ) → factor_refusal r ≡ n → (n ≡ 0 → ⊥) → answer ≡ Refused n
  by_factors p n e h = ap (λ b. (factored_law b step r).outcome) p ∙ ap (λ (w : Worked). w.outcome) (fourteen.first_refused r step n e h)

  pub factored_refuses : Result
  factored_refuses = go own (record_finite r) (determinant_right r) (checked_at r) refl refl refl refl
    where
      go : (a b c d : Bool) → own ≡ a → record_finite r ≡ b → determinant_right r ≡ c → checked_at r ≡ d → Result
      go false b c d p q s t =
          by_one (same_number answer) (ap (λ b. (factored_law b step r).outcome) p ∙ ap (λ (w : Worked). w.outcome) (fourteen.inputs_first r step))
          ((not_finite_lem (inputs_of (ms r))).0 (tested r ∙ ap (λ b. b && record_finite r) p))
      go true false c d p q s t =
          by_one (same_number answer) (by_factors p not_finite (fourteen.one r q) (λ z. omega arith))
          ((not_finite_lem (inputs_of (ms r))).0 (tested r ∙ ap (λ b. b && record_finite r) p ∙ q))
      go true true false d p q s t = by_eleven (same_number answer) (by_factors p wrong_determinant (fourteen.eleven r q s) (λ z. omega arith)) (fine_at r p q) s
      go true true true false p q s t = by_fourteen (same_number answer) (by_factors p not_accepted (fourteen.fourteen r q s t) (λ z. omega arith)) (fine_at r p q) s t
      go true true true true p q s t =
          let z = fourteen.none r q s t in
          let x = with_factors r in
          let e : answer ≡ (step x).outcome = ap (λ b. (factored_law b step r).outcome) p ∙ ap (λ (w : Worked). w.outcome) (fourteen.first r step z) in
          let f = fine_at x p (still_finite r t q) in
          by_law (same_number answer) (fine_at r p q) s t (λ k. f ((law x).one.0 (sym e ∙ k)))
          (subst (λ (o : Outcome). Numbers (λ n. o ≡ Refused n) (ms x)) (sym e) ((law x).goes_on f (factors_measured r z).0 refl))
