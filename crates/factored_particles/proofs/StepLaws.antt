-- A step with our own factors, made ready, makes of a record what the step makes of it; it keeps the record's length, an amount that it
-- stores is finite, and a refused record fails by none. Assumes nothing.
use mathlib.Core.Path.{◌≡◌, refl, ap, ◌∙◌}
use mathlib.Core.Bool.{Bool, true, false, cond, ◌&&◌}
use mathlib.Core.List.{List}
use Prim.Native.Nat.{ℕ, ◌/◌}
use lib.Dec.{eqb}
use lib.Ieee as Ieee
use lib.ListN.{length}
use Rattle.numbers.specs.Floats.{finite}
use Rattle.answers.specs.Refusals.{not_finite}
use Rattle.tensor.specs.Matrix.{zero}
use Rattle.plasticity.specs.declared.Outcome.TheVariants.{Stored}
use Rattle.record.specs.Layout.{floats}
use Rattle.model.specs.declared.Model.{Model}
use Rattle.model.specs.declared.Ready.{Ready}
use Rattle.model.specs.Model.{model_finite}
use Rattle.model.specs.Ready.{ready_of, ready_finite, parameters_ready}
use Rattle.model.proofs.KindLaws.{and_true}
use Rattle.model.proofs.ReadyLaws.{ready_parameters}
use Rattle.one_record.specs.declared.judged.Judge.{Judge}
use Rattle.one_record.specs.declared.judged.Judge.TheVariants.{Nobody, By}
use Rattle.particles.specs.declared.failure.FailureCounts.{FailureCounts}
use Rattle.particles.specs.declared.failure.PassedWithFailure.TheVariants.{Done}
use Rattle.particles.specs.declared.step.Step.TheVariants.{Plain, Judged}
use Rattle.particles.specs.Pass.{Worked, AmountFinite, code_of, passed_with_failure, pass_answers}
use Rattle.one_record.specs.RecordLaw.{record_law}
use Rattle.one_record.specs.Judged.{refused_record, finite_by, law_by}
use Rattle.one_record.specs.ReadyRecord.{ready_law}
use Rattle.particles.specs.Step.{step_law}
use Rattle.particles.proofs.PassLaws.{Keeps}
use Rattle.one_record.proofs.ReadyRecordLaws.{ready_law_lem}
use Rattle.particles.proofs.ReadiedLaws.{ready_keeps, ready_amount, taken_finite_lem}
use Rattle.particles.proofs.CountLaws.{CountsTold, Never, step_never, counted_by}
use Rattle.factored_particles.specs.declared.step.FactoredStep.{FactoredStep}
use Rattle.factored_particles.specs.declared.step.FactoredStep.TheVariants.{Factors, First}
use Rattle.factored_particles.specs.declared.step.FactoredTaken.{FactoredTaken}
use Rattle.factored_particles.specs.Factored.{with_factors, factor_refusal, factor_law, or_as_it_came, factored_law}
use Rattle.factored_particles.specs.Step.{own_step_law, own_taken, ready_first, own_law, own_taken_law}
use Rattle.factored_particles.proofs.FactoredLaws.{factor_keeps, factored_keeps, factor_unjudged}

pub own_finite : (s : FactoredStep) → ready_finite (own_taken s).ready ≡ true
own_finite Factors = refl
own_finite (First s) = taken_finite_lem s

ready_first_lem : (m : Model) (j : Judge) → ready_first (ready_of m) j ≡ factored_law (model_finite m && finite_by j) (law_by m j)
ready_first_lem m j =
    let law : ready_law (ready_of m) j ≡ law_by m j = λ i r. ready_law_lem m r j i in
    rw (ready_parameters m, law) refl

pub own_law_lem : (s : FactoredStep) → own_taken_law (own_taken s) ≡ own_step_law s
own_law_lem Factors = refl
own_law_lem (First (Plain m)) = ready_first_lem m Nobody ∙ ap (λ (b : Bool). factored_law b (record_law m)) (and_true (model_finite m))
own_law_lem (First (Judged m l e)) = ready_first_lem m (By l e)

-- ---- every record keeps its length
pub own_keeps : (t : FactoredTaken) → Keeps (own_taken_law t)
own_keeps t = go t.alone t.ready t.judge
  where
    go : (b : Bool) (q : Ready) (j : Judge) → Keeps (own_law b q j)
    go true q j = factor_keeps
    go false q j = factored_keeps _ (ready_law q j) (ready_keeps q j)

-- ---- an amount that is stored is finite
factor_amount : (r : List ℕ) → AmountFinite (factor_law r).outcome
unfolding factor_law finite Ieee.of_bits
factor_amount r = go (eqb (factor_refusal r) 0)
  where
    go : (b : Bool) → AmountFinite (cond b (record { outcome = Stored zero; failed = false; after = with_factors r }) (refused_record (factor_refusal r) r)).outcome
    go true = refl
    go false = tt

first_amount : (q : Ready) (j : Judge) (r : List ℕ) → AmountFinite (ready_first q j r).outcome
unfolding factored_law
first_amount q j r = go (parameters_ready q && finite_by j) (eqb (factor_refusal r) 0)
  where
    go : (a b : Bool) → AmountFinite (cond a (cond b (or_as_it_came r (ready_law q j (with_factors r))) (refused_record (factor_refusal r) r)) (refused_record not_finite r)).outcome
    go true true = ready_amount q j (with_factors r)
    go true false = tt
    go false b = tt

pub own_amount : (b : Bool) (q : Ready) (j : Judge) (r : List ℕ) → AmountFinite (own_law b q j r).outcome
own_amount true q j = factor_amount
own_amount false q j = first_amount q j

-- ---- a refused record fails by no step, and so the counts are the answers'
factored_never : (inputs : Bool) (step : List ℕ → Worked) → Never step → Never (factored_law inputs step)
unfolding factored_law
factored_never inputs step f r = go inputs (eqb (factor_refusal r) 0)
  where
    go : (a b : Bool) → let w = cond a (cond b (or_as_it_came r (step (with_factors r))) (refused_record (factor_refusal r) r)) (refused_record 1 r) in code_of w.outcome ≡ 2 → w.failed ≡ false
    go true true h = f (with_factors r) h
    go true false h = refl
    go false b h = refl

own_never : (s : FactoredStep) → Never (own_step_law s)
own_never Factors = λ r h. factor_unjudged r
own_never (First s) = factored_never _ (step_law s) (step_never s)

pub own_counted : (s : FactoredStep) (xs out : List ℕ) (c : FailureCounts) → passed_with_failure (own_step_law s) xs out ≡ Done c
    → CountsTold (own_step_law s) xs (pass_answers (own_step_law s) xs out) (length xs / floats) c
own_counted s = counted_by (own_step_law s) (own_never s)
