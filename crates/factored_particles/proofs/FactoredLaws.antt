-- Our own factors in a record's step: the refusals in their order, and what a step after them leaves. Assumes nothing.
use mathlib.Core.Path.{◌≡◌, refl, sym, ap, ◌∙◌}
use mathlib.Core.Bool.{Bool, true, false, cond}
use mathlib.Core.List.{List}
use Prim.Native.Nat.{ℕ}
use native.Mathlib.Omega.{arith}
use lib.Dec.{eqb}
use lib.ListN.{length, length-set}
use borrow.Author.Tests.{eq-eqb, ne_eqb}
use Rattle.tensor.specs.Matrix.{zero}
use Rattle.plasticity.specs.declared.Outcome.{Outcome}
use Rattle.plasticity.specs.declared.Outcome.TheVariants.{Untouched, Stored, Refused}
use Rattle.record.specs.Layout.{record_finite, determinant_right}
use Rattle.particles.specs.Pass.{Worked}
use Rattle.one_record.specs.Judged.{refused_record}
use Rattle.factored_particles.specs.Factored.{factors_at, with_factors, factor_refusal, factor_law, held_by, or_as_it_came, factored_law}
use Rattle.particles.proofs.PassLaws.{Keeps}

-- the factors' number is n, and r becomes s
abbrev pub Factored : List ℕ → ℕ → List ℕ → Type 0
Factored r n s = (n ≡ factor_refusal r) × (s ≡ cond (eqb (factor_refusal r) 0) (with_factors r) r)

module _ (r : List ℕ) where
  pub not_finite_lem : record_finite r ≡ false → Factored r 1 r
  unfolding factor_refusal
  not_finite_lem q = (rw q refl, rw q refl)

  pub wrong : record_finite r ≡ true → determinant_right r ≡ false → Factored r 11 r
  unfolding factor_refusal
  wrong q d = (rw (q, d) refl, rw (q, d) refl)

  pub missed : record_finite r ≡ true → determinant_right r ≡ true → ((factors_at r).refusal ≡ 0 → ⊥) → Factored r (factors_at r).refusal r
  unfolding factor_refusal
  missed q d h = (rw (q, d) refl, rw (q, d, ne_eqb (factors_at r).refusal 0 h) refl)

  pub accepted : record_finite r ≡ true → determinant_right r ≡ true → (factors_at r).refusal ≡ 0 → Factored r 0 (with_factors r)
  unfolding factor_refusal
  accepted q d h = (rw (q, d) (sym h), rw (q, d, eq-eqb (factors_at r).refusal 0 h) refl)

  -- ---- by themselves
  pub alone_taken : {n : ℕ} {s : List ℕ} → Factored r n s → n ≡ 0 → (Stored zero ≡ (factor_law r).outcome) × (s ≡ (factor_law r).after)
  unfolding factor_law
  alone_taken f z = let e = eq-eqb (factor_refusal r) 0 (sym f.0 ∙ z) in (rw e refl, f.1 ∙ rw e refl)

  pub alone_refused : {n : ℕ} {s : List ℕ} → Factored r n s → (n ≡ 0 → ⊥) → (Refused n ≡ (factor_law r).outcome) × (s ≡ (factor_law r).after)
  unfolding factor_law
  alone_refused f h = let e = ne_eqb (factor_refusal r) 0 (λ z. h (f.0 ∙ z)) in (rw e (ap Refused f.0), f.1 ∙ rw e refl)

  -- ---- before a step
  module _ (inputs : Bool) (step : List ℕ → Worked) where
    pub inputs_refused : inputs ≡ false → factored_law inputs step r ≡ refused_record 1 r
    unfolding factored_law
    inputs_refused q = rw q refl

    pub factors_refused : {n : ℕ} {s : List ℕ} → inputs ≡ true → Factored r n s → (n ≡ 0 → ⊥) → (factored_law inputs step r ≡ refused_record n r) × (s ≡ r)
    unfolding factored_law
    factors_refused q f h = let e = ne_eqb (factor_refusal r) 0 (λ z. h (f.0 ∙ z)) in (rw (q, e) (ap (λ k. refused_record k r) (sym f.0)), f.1 ∙ rw e refl)

    pub stepped : {n : ℕ} {s : List ℕ} → inputs ≡ true → Factored r n s → n ≡ 0 → (factored_law inputs step r ≡ or_as_it_came r (step (with_factors r))) × (s ≡ with_factors r)
    unfolding factored_law
    stepped q f z = let e = eq-eqb (factor_refusal r) 0 (sym f.0 ∙ z) in (rw (q, e) refl, f.1 ∙ rw e refl)

-- what is held of a step on the record with our factors
pub held_law : (step : List ℕ → Worked) (r : List ℕ) {q old new : List ℕ} {o : Outcome} → old ≡ r → q ≡ with_factors r → o ≡ (step q).outcome → new ≡ (step q).after
    → held_by o old new ≡ (or_as_it_came r (step (with_factors r))).after
held_law step r {q} {old} {new} {o} a b c d = rw (a, d, c, b) refl

-- ---- every record keeps its length
pub factors_length : (r : List ℕ) → length (with_factors r) ≡ length r
unfolding with_factors
factors_length r = simp length-set

held_length : (o : Outcome) (old new : List ℕ) → length new ≡ length old → length (held_by o old new) ≡ length old
held_length Untouched old new h = h
held_length (Stored a) old new h = h
held_length (Refused n) old new h = refl

pub factor_keeps : Keeps factor_law
unfolding factor_law
factor_keeps r = go (eqb (factor_refusal r) 0)
  where
    go : (b : Bool) → length (cond b (record { outcome = Stored zero; failed = false; after = with_factors r }) (refused_record (factor_refusal r) r)).after ≡ length r
    go true = factors_length r
    go false = refl

pub factored_keeps : (inputs : Bool) (step : List ℕ → Worked) → Keeps step → Keeps (factored_law inputs step)
unfolding factored_law
factored_keeps inputs step k r = go inputs (eqb (factor_refusal r) 0)
  where
    go : (a b : Bool) → length (cond a (cond b (or_as_it_came r (step (with_factors r))) (refused_record (factor_refusal r) r)) (refused_record 1 r)).after ≡ length r
    go true true = held_length (step (with_factors r)).outcome r (step (with_factors r)).after (k (with_factors r) ∙ factors_length r)
    go true false = refl
    go false b = refl

-- factors by themselves fail nobody
pub factor_unjudged : (r : List ℕ) → (factor_law r).failed ≡ false
unfolding factor_law
factor_unjudged r = go (eqb (factor_refusal r) 0)
  where
    go : (b : Bool) → (cond b (record { outcome = Stored zero; failed = false; after = with_factors r }) (refused_record (factor_refusal r) r)).failed ≡ false
    go true = refl
    go false = refl

-- factors that nothing refuses
pub fine : (r : List ℕ) → factor_refusal r ≡ 0 → (record_finite r ≡ true) × (determinant_right r ≡ true) × ((factors_at r).refusal ≡ 0)
unfolding factor_refusal
fine r = go (record_finite r) (determinant_right r)
  where
    go : (a b : Bool) → cond a (cond b (factors_at r).refusal 11) 1 ≡ 0 → (a ≡ true) × (b ≡ true) × ((factors_at r).refusal ≡ 0)
    go true true h = (refl, refl, h)
    go true false h = absurd (omega (arith, h))
    go false b h = absurd (omega (arith, h))
