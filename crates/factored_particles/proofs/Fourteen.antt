-- When each number refuses the factors of a record, and only then (RULES, section 6): 1, then 11, then 14. Assumes nothing.
use mathlib.Core.Path.{◌≡◌, refl, sym, ap, ◌∙◌}
use mathlib.Core.Bool.{Bool, true, false, cond}
use mathlib.Core.List.{List}
use Prim.Native.Nat.{ℕ}
use native.Mathlib.Omega.{arith}
use borrow.Author.Tests.{eq-eqb, ne_eqb}
use lib.Ieee.{Float}
use Rattle.answers.specs.Refusals.{not_finite, wrong_determinant, not_accepted}
use Rattle.tensor.specs.Matrix.{zero}
use Rattle.factors.specs.Sweeps.{factors_of}
use Rattle.factors.specs.Check.{accepted_of}
use Rattle.factors.specs.Answers.{factored_of, refused_factors}
use Rattle.plasticity.specs.declared.Outcome.TheVariants.{Stored}
use Rattle.record.specs.Layout.{place_f, mat_at, record_finite, determinant_right}
use Rattle.particles.specs.Pass.{Worked}
use Rattle.one_record.specs.Judged.{refused_record}
use Rattle.factored_particles.specs.Factored.{with_factors, put_factors, factor_refusal, factor_law, or_as_it_came, factored_law}

module _ (r : List ℕ) where
  abbrev f : List (List Float)
  f = mat_at r place_f

  -- whether the factors after the last sweep pass the check
  abbrev pub checked : Bool
  checked = accepted_of f (factors_of f)

  -- the number, by the three tests in their order
  abbrev numbered : Bool → Bool → Bool → ℕ
  numbered a b c =
      cond a (cond b (cond c (record { refusal = 0; factors = factors_of f }) (refused_factors not_accepted)).refusal wrong_determinant) not_finite

  pub one : record_finite r ≡ false → factor_refusal r ≡ not_finite
  unfolding factor_refusal
  one a = rw a refl

  pub one_only : factor_refusal r ≡ not_finite → record_finite r ≡ false
  unfolding factor_refusal factored_of
  one_only = go (record_finite r) (determinant_right r) checked
    where
      go : (a b c : Bool) → numbered a b c ≡ not_finite → a ≡ false
      go true true true h = absurd (omega (arith, h))
      go true true false h = absurd (omega (arith, h))
      go true false c h = absurd (omega (arith, h))
      go false b c h = refl

  pub eleven : record_finite r ≡ true → determinant_right r ≡ false → factor_refusal r ≡ wrong_determinant
  unfolding factor_refusal
  eleven a b = rw (a, b) refl

  pub eleven_only : factor_refusal r ≡ wrong_determinant → (record_finite r ≡ true) × (determinant_right r ≡ false)
  unfolding factor_refusal factored_of
  eleven_only = go (record_finite r) (determinant_right r) checked
    where
      go : (a b c : Bool) → numbered a b c ≡ wrong_determinant → (a ≡ true) × (b ≡ false)
      go true true true h = absurd (omega (arith, h))
      go true true false h = absurd (omega (arith, h))
      go true false c h = (refl, refl)
      go false b c h = absurd (omega (arith, h))

  -- "On a record that no earlier number refuses, 14 comes exactly when the factors after the last sweep miss the check"
  pub fourteen : record_finite r ≡ true → determinant_right r ≡ true → checked ≡ false → factor_refusal r ≡ not_accepted
  unfolding factor_refusal factored_of
  fourteen a b c = rw (a, b, c) refl

  pub fourteen_only : factor_refusal r ≡ not_accepted → (record_finite r ≡ true) × (determinant_right r ≡ true) × (checked ≡ false)
  unfolding factor_refusal factored_of
  fourteen_only = go (record_finite r) (determinant_right r) checked
    where
      go : (a b c : Bool) → numbered a b c ≡ not_accepted → (a ≡ true) × (b ≡ true) × (c ≡ false)
      go true true true h = absurd (omega (arith, h))
      go true true false h = (refl, refl, refl)
      go true false c h = absurd (omega (arith, h))
      go false b c h = absurd (omega (arith, h))

  -- and they are accepted where it is passed
  pub none : record_finite r ≡ true → determinant_right r ≡ true → checked ≡ true → factor_refusal r ≡ 0
  unfolding factor_refusal factored_of
  none a b c = rw (a, b, c) refl

  pub none_only : factor_refusal r ≡ 0 → (record_finite r ≡ true) × (determinant_right r ≡ true) × (checked ≡ true)
  unfolding factor_refusal factored_of
  none_only = go (record_finite r) (determinant_right r) checked
    where
      go : (a b c : Bool) → numbered a b c ≡ 0 → (a ≡ true) × (b ≡ true) × (c ≡ true)
      go true true true h = (refl, refl, refl)
      go true true false h = absurd (omega (arith, h))
      go true false c h = absurd (omega (arith, h))
      go false b c h = absurd (omega (arith, h))

  -- what is written where they are accepted: the factors after the last sweep, and nothing else
  pub written : checked ≡ true → with_factors r ≡ put_factors r (factors_of f)
  unfolding with_factors factored_of
  written c = rw c refl

  -- by themselves
  pub refused : (n : ℕ) → factor_refusal r ≡ n → (n ≡ 0 → ⊥) → factor_law r ≡ refused_record n r
  unfolding factor_law
  refused n e h = rw (ne_eqb (factor_refusal r) 0 (λ z. h (sym e ∙ z))) (ap (λ (k : ℕ). refused_record k r) e)

  pub stored : factor_refusal r ≡ 0 → factor_law r ≡ record { outcome = Stored zero; failed = false; after = with_factors r }
  unfolding factor_law
  stored e = rw (eq-eqb (factor_refusal r) 0 e) refl

  -- before a step whose own inputs are finite: refused by the same number, or that step on the record with these factors ("demands 2 and 3
  -- then speak of these factors"), which a refusal leaves as it came
  module _ (step : List ℕ → Worked) where
    pub first_refused : (n : ℕ) → factor_refusal r ≡ n → (n ≡ 0 → ⊥) → factored_law true step r ≡ refused_record n r
    unfolding factored_law
    first_refused n e h = rw (ne_eqb (factor_refusal r) 0 (λ z. h (sym e ∙ z))) (ap (λ (k : ℕ). refused_record k r) e)

    pub first : factor_refusal r ≡ 0 → factored_law true step r ≡ or_as_it_came r (step (with_factors r))
    unfolding factored_law
    first e = rw (eq-eqb (factor_refusal r) 0 e) refl

    -- 1 of the step's own inputs comes before all
    pub inputs_first : factored_law false step r ≡ refused_record not_finite r
    unfolding factored_law
    inputs_first = refl
