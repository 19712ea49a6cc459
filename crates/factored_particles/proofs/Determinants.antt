-- The determinant in a record that our own factors are written into: they leave it, and so does a step after them; a refused record keeps all
-- its bits, and an untouched one has the new factors. Assumes nothing.
use mathlib.Core.Path.{◌≡◌, refl, sym, ap, subst, ◌∙◌}
use mathlib.Core.Bool.{Bool, true, false, cond}
use mathlib.Core.List.{List}
use Prim.Native.Nat.{ℕ, ◌+◌, ◌<◌}
use native.Mathlib.Omega.{arith}
use lib.Dec.{eqb}
use lib.ListN.{length, get_or, set}
use lib.Ieee.{Float, nan}
use borrow.Author.Tests.{eqb-true}
use Rattle.numbers.specs.Floats.{finite}
use Rattle.answers.specs.Refusals.{not_finite}
use Rattle.tensor.specs.Matrix.{zero}
use Rattle.tensor.specs.declared.Rows.{Rows}
use Rattle.plasticity.specs.declared.Outcome.{Outcome}
use Rattle.plasticity.specs.declared.Outcome.TheVariants as outcome
use Rattle.record.specs.Layout.{floats, place_u, place_sigma, place_vt, place_determinant, put_row, put_rows, bits}
use Rattle.record.proofs.Places.{other, right_other}
use Rattle.particles.specs.Pass.{Worked}
use Rattle.one_record.specs.Judged.{refused_record}
use Rattle.particles.specs.Step.{step_law}
use Rattle.one_record.proofs.RecordLaws.{last_finite}
use Rattle.particles.proofs.Determinants as plain
use Rattle.particles.proofs.Determinants.{Stands, Measured, differ}
use Rattle.factored_particles.specs.declared.step.FactoredStep.{FactoredStep}
use Rattle.factored_particles.specs.declared.step.FactoredStep.TheVariants.{Factors, First}
use Rattle.factored_particles.specs.Factored.{factors_at, with_factors, factor_refusal, factor_law, held_by, or_as_it_came, factored_law}
use Rattle.factored_particles.specs.Step.{own_step_law}
use Rattle.factored_particles.proofs.FactoredLaws.{fine, factors_length}

-- ---- the factors leave the determinant of F
row_measured : (r : List ℕ) (at : ℕ) (v : List Float) → 8 < at → at + 2 < place_determinant → Measured r → Measured (put_row r at v)
row_measured r at v h k q =
    let a = bits (get_or v 0 nan) in
    let b = bits (get_or v 1 nan) in
    let c = bits (get_or v 2 nan) in
    let r1 = set r at a in
    let r2 = set r1 (at + 1) b in (
      right_other r2 (at + 2) c (omega arith) (λ e. omega arith) ∙ (right_other r1 (at + 1) b (omega arith) (λ e. omega arith) ∙ (right_other r at a (omega arith) (λ e. omega arith) ∙ q.0)),
      ap finite (other r2 (at + 2) place_determinant c (λ e. omega arith) ∙ (other r1 (at + 1) place_determinant b (λ e. omega arith) ∙ other r at place_determinant a (λ e. omega arith))) ∙ q.1,
    )

rows_measured : (r : List ℕ) (at : ℕ) (m : Rows) → 8 < at → at + 8 < place_determinant → Measured r → Measured (put_rows r at m)
rows_measured r at m h k q =
    row_measured (put_row (put_row r at m.r0) (at + 3) m.r1) (at + 6) m.r2 (omega arith) (omega arith)
    (row_measured (put_row r at m.r0) (at + 3) m.r1 (omega arith) (omega arith) (row_measured r at m.r0 h (omega arith) q))

pub factors_measured : (r : List ℕ) → factor_refusal r ≡ 0 → Measured (with_factors r)
unfolding with_factors
factors_measured r z =
    let f = fine r z in
    let x = (factors_at r).factors in
    rows_measured (put_row (put_rows r place_u x.u) place_sigma x.sigma) place_vt x.vt (omega arith) (omega arith)
    (row_measured (put_rows r place_u x.u) place_sigma x.sigma (omega arith) (omega arith)
    (rows_measured r place_u x.u (omega arith) (omega arith) (f.1, last_finite r f.0)))

factor_measured : (r : List ℕ) → Stands (factor_law r).outcome → Measured (factor_law r).after
unfolding factor_law
factor_measured r = go (eqb (factor_refusal r) 0) refl
  where
    go : (b : Bool) → eqb (factor_refusal r) 0 ≡ b → let w = cond b (record { outcome = outcome.Stored zero; failed = false; after = with_factors r }) (refused_record (factor_refusal r) r) in Stands w.outcome → Measured w.after
    go true e h = factors_measured r (eqb-true (factor_refusal r) 0 e)
    go false e h = absurd (h (factor_refusal r) refl)

held_stands : (o : Outcome) (old new : List ℕ) → Stands o → held_by o old new ≡ new
held_stands outcome.Untouched old new h = refl
held_stands (outcome.Stored a) old new h = refl
held_stands (outcome.Refused n) old new h = absurd (h n refl)

factored_measured : (inputs : Bool) (step : List ℕ → Worked) (r : List ℕ) → ((q : List ℕ) → length q ≡ floats → Stands (step q).outcome → Measured (step q).after)
    → length r ≡ floats → Stands (factored_law inputs step r).outcome → Measured (factored_law inputs step r).after
unfolding factored_law
factored_measured inputs step r f k = go inputs (eqb (factor_refusal r) 0)
  where
    s : Worked
    s = step (with_factors r)

    go : (a b : Bool) → let w = cond a (cond b (or_as_it_came r s) (refused_record (factor_refusal r) r)) (refused_record not_finite r) in Stands w.outcome → Measured w.after
    go true true h = subst Measured (sym (held_stands s.outcome r s.after h)) (f (with_factors r) (factors_length r ∙ k) h)
    go true false h = absurd (h (factor_refusal r) refl)
    go false b h = absurd (h not_finite refl)

pub own_measured : (s : FactoredStep) (r : List ℕ) → length r ≡ floats → Stands (own_step_law s r).outcome → Measured (own_step_law s r).after
own_measured Factors r k = factor_measured r
own_measured (First s) r k = factored_measured _ (step_law s) r (plain.step_measured s) k

-- ---- a refused record keeps all its bits
factor_refused : (r : List ℕ) (n : ℕ) → (factor_law r).outcome ≡ outcome.Refused n → (factor_law r).after ≡ r
unfolding factor_law
factor_refused r n = go (eqb (factor_refusal r) 0)
  where
    go : (b : Bool) → let w = cond b (record { outcome = outcome.Stored zero; failed = false; after = with_factors r }) (refused_record (factor_refusal r) r) in w.outcome ≡ outcome.Refused n → w.after ≡ r
    go true h = differ h (λ c. omega arith)
    go false h = refl

-- factors by themselves leave nothing untouched
factor_stored : {A : Type 0} (r : List ℕ) → (factor_law r).outcome ≡ outcome.Untouched → A
unfolding factor_law
factor_stored {A} r = go (eqb (factor_refusal r) 0)
  where
    go : (b : Bool) → (cond b (record { outcome = outcome.Stored zero; failed = false; after = with_factors r }) (refused_record (factor_refusal r) r)).outcome ≡ outcome.Untouched → A
    go true h = differ h (λ c. omega arith)
    go false h = differ h (λ c. omega arith)

module _ (inputs : Bool) (step : List ℕ → Worked) (r : List ℕ) where
  factored_refused : (n : ℕ) → (factored_law inputs step r).outcome ≡ outcome.Refused n → (factored_law inputs step r).after ≡ r
  unfolding factored_law
  factored_refused n = go inputs (eqb (factor_refusal r) 0)
    where
      go : (a b : Bool) → let w = cond a (cond b (or_as_it_came r (step (with_factors r))) (refused_record (factor_refusal r) r)) (refused_record not_finite r) in w.outcome ≡ outcome.Refused n → w.after ≡ r
      go true true h = ap (λ (o : Outcome). held_by o r (step (with_factors r)).after) h
      go true false h = refl
      go false b h = refl

  factored_untouched : ((step (with_factors r)).outcome ≡ outcome.Untouched → (step (with_factors r)).failed ≡ false → (step (with_factors r)).after ≡ with_factors r)
      → (factored_law inputs step r).outcome ≡ outcome.Untouched → (factored_law inputs step r).failed ≡ false → (factored_law inputs step r).after ≡ with_factors r
  unfolding factored_law
  factored_untouched f = go inputs (eqb (factor_refusal r) 0)
    where
      go : (a b : Bool) → let w = cond a (cond b (or_as_it_came r (step (with_factors r))) (refused_record (factor_refusal r) r)) (refused_record not_finite r) in w.outcome ≡ outcome.Untouched → w.failed ≡ false → w.after ≡ with_factors r
      go true true h q = ap (λ (o : Outcome). held_by o r (step (with_factors r)).after) h ∙ f h q
      go true false h q = differ h (λ c. omega arith)
      go false b h q = differ h (λ c. omega arith)

pub own_refused_bits : (s : FactoredStep) (r : List ℕ) (n : ℕ) → (own_step_law s r).outcome ≡ outcome.Refused n → (own_step_law s r).after ≡ r
own_refused_bits Factors r n h = factor_refused r n h
own_refused_bits (First s) r n h = factored_refused _ (step_law s) r n h

-- and one that is untouched and did not fail has the new factors
pub own_untouched_bits : (s : FactoredStep) (r : List ℕ) → (own_step_law s r).outcome ≡ outcome.Untouched → (own_step_law s r).failed ≡ false → (own_step_law s r).after ≡ with_factors r
own_untouched_bits Factors r h f = factor_stored r h
own_untouched_bits (First s) r h f = factored_untouched _ (step_law s) r (plain.untouched_bits s (with_factors r)) h f
