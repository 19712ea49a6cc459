-- The counts of a pass (RULES, section 7): they count the answers that it wrote, and add up to its records; the fourth counts those that failed,
-- none of which was refused. Assumes nothing.
use mathlib.Core.Path.{◌≡◌, refl, sym, ap, subst, ◌∙◌}
use mathlib.Core.Bool.{Bool, true, false, cond, false≢true}
use mathlib.Core.List.{List}
use Prim.Native.Nat.{ℕ, zero, suc, ◌+◌, ◌*◌, ◌/◌, ◌≤◌, ◌<◌}
use native.Mathlib.Omega.{arith}
use lib.Dec.{eqb}
use lib.ListN.{length, get_or}
use Rattle.plasticity.specs.declared.Outcome.{Outcome}
use Rattle.plasticity.specs.declared.Outcome.TheVariants.{Untouched, Stored, Refused}
use Rattle.record.specs.Layout.{floats}
use Rattle.failure_maximum_stress.specs.declared.MaximumStressFailure.{MaximumStressFailure}
use Rattle.failure_maximum_stress.specs.declared.Verdict.{Verdict}
use Rattle.failure_maximum_stress.specs.declared.Verdict.TheVariants as verdict
use Rattle.elasticity_corotated_linear.specs.declared.CorotatedLinearElasticity.{CorotatedLinearElasticity}
use Rattle.model.specs.declared.Model.{Model}
use Rattle.particles.specs.declared.failure.FailureCounts.{FailureCounts}
use Rattle.particles.specs.declared.failure.PassedWithFailure.TheVariants as pass
use Rattle.particles.specs.declared.failure.PassedWithFailure.TheVariants.{Done}
use Rattle.particles.specs.declared.step.Step.{Step}
use Rattle.particles.specs.declared.step.Step.TheVariants.{Plain, Judged}
use Rattle.particles.specs.Pass.{Worked, code_of, record_at, answers, counted, counts, well_sized, passed_with_failure, pass_answers, counts_over}
use Rattle.one_record.specs.RecordLaw.{record_law}
use Rattle.one_record.specs.Judged.{judge_finite, judged_at, refused_record, marked, failure_law, unless_refused}
use Rattle.particles.specs.Step.{step_law}
use Rattle.particles.proofs.PassLaws.{answers_at}

-- how many numbers below n are so
abbrev pub how_many : (ℕ → Bool) → ℕ → ℕ
how_many is zero = 0
how_many is (suc n) = how_many is n + cond (is n) 1 0

same_many : (p q : ℕ → Bool) (n : ℕ) → ((i : ℕ) → i < n → p i ≡ q i) → how_many p n ≡ how_many q n
same_many p q zero h = refl
same_many p q (suc n) h = rw (same_many p q n (λ i l. h i (omega arith)), h n (omega arith)) refl

-- the answer of record i has this code
abbrev pub Code : List ℕ → ℕ → ℕ → Bool
Code a c i = eqb (get_or a (i * 2) 0) c

-- what c says of the answers a and of n records of l, each worked by itself by the step
pub record CountsTold (step : List ℕ → Worked) (l a : List ℕ) (n : ℕ) (c : FailureCounts) : Type 0 where
  pub untouched : c.untouched ≡ how_many (Code a 0) n
  pub stored : c.stored ≡ how_many (Code a 1) n
  pub refused : c.refused ≡ how_many (Code a 2) n
  pub failed : c.failed ≡ how_many (λ i. (step (record_at l i)).failed) n
  pub whole : c.untouched + c.stored + c.refused ≡ n
  pub none_refused : c.failed ≤ c.untouched + c.stored

-- ---- by the outcomes
module _ (step : List ℕ → Worked) (l : List ℕ) where
  abbrev code : ℕ → ℕ
  code i = code_of (step (record_at l i)).outcome

  record By (n : ℕ) (c : FailureCounts) : Type 0 where
    untouched : c.untouched ≡ how_many (λ i. eqb (code i) 0) n
    stored : c.stored ≡ how_many (λ i. eqb (code i) 1) n
    refused : c.refused ≡ how_many (λ i. eqb (code i) 2) n
    failed : c.failed ≡ how_many (λ i. (step (record_at l i)).failed) n
    whole : c.untouched + c.stored + c.refused ≡ n
    none_refused : c.failed ≤ c.untouched + c.stored

  one_more : (n : ℕ) (c : FailureCounts) (o : Outcome) (f : Bool) → (step (record_at l n)).outcome ≡ o → (step (record_at l n)).failed ≡ f
      → (code_of o ≡ 2 → f ≡ false) → By n c → By (suc n) (counted c o f)
  one_more n c Untouched true e g h b =
      record { untouched = rw (ap code_of e) (ap (λ k. k + 1) b.untouched); stored = rw (ap code_of e) (let z = b.stored in omega arith); refused = rw (ap code_of e) (let z = b.refused in omega arith); failed = rw g (ap (λ k. k + 1) b.failed); whole = let z = b.whole in omega arith; none_refused = let z = b.none_refused in omega arith }
  one_more n c Untouched false e g h b =
      record { untouched = rw (ap code_of e) (ap (λ k. k + 1) b.untouched); stored = rw (ap code_of e) (let z = b.stored in omega arith); refused = rw (ap code_of e) (let z = b.refused in omega arith); failed = rw g (let z = b.failed in omega arith); whole = let z = b.whole in omega arith; none_refused = let z = b.none_refused in omega arith }
  one_more n c (Stored x) true e g h b =
      record { untouched = rw (ap code_of e) (let z = b.untouched in omega arith); stored = rw (ap code_of e) (ap (λ k. k + 1) b.stored); refused = rw (ap code_of e) (let z = b.refused in omega arith); failed = rw g (ap (λ k. k + 1) b.failed); whole = let z = b.whole in omega arith; none_refused = let z = b.none_refused in omega arith }
  one_more n c (Stored x) false e g h b =
      record { untouched = rw (ap code_of e) (let z = b.untouched in omega arith); stored = rw (ap code_of e) (ap (λ k. k + 1) b.stored); refused = rw (ap code_of e) (let z = b.refused in omega arith); failed = rw g (let z = b.failed in omega arith); whole = let z = b.whole in omega arith; none_refused = let z = b.none_refused in omega arith }
  one_more n c (Refused x) true e g h b = absurd (false≢true (sym (h refl)))
  one_more n c (Refused x) false e g h b =
      record { untouched = rw (ap code_of e) (let z = b.untouched in omega arith); stored = rw (ap code_of e) (let z = b.stored in omega arith); refused = rw (ap code_of e) (ap (λ k. k + 1) b.refused); failed = rw g (let z = b.failed in omega arith); whole = let z = b.whole in omega arith; none_refused = let z = b.none_refused in omega arith }

  module _ (never : (r : List ℕ) → code_of (step r).outcome ≡ 2 → (step r).failed ≡ false) where
    by_outcomes : (n : ℕ) → By n (counts step l n)
    unfolding counts_over
    by_outcomes zero = record { untouched = refl; stored = refl; refused = refl; failed = refl; whole = refl; none_refused = omega arith }
    by_outcomes (suc n) = one_more n (counts step l n) (step (record_at l n)).outcome (step (record_at l n)).failed refl refl (never (record_at l n)) (by_outcomes n)

    -- and by the answers that are written
    pub counts_told : (n : ℕ) → CountsTold step l (answers step l n) n (counts step l n)
    counts_told n =
        let b = by_outcomes n in
        let is : (c : ℕ) → how_many (λ i. eqb (code i) c) n ≡ how_many (Code (answers step l n) c) n =
        λ c. same_many (λ i. eqb (code i) c) (Code (answers step l n) c) n (λ i h. ap (λ (k : ℕ). eqb k c) (sym (answers_at floats step l n i h).0)) in
        record { untouched = b.untouched ∙ is 0; stored = b.stored ∙ is 1; refused = b.refused ∙ is 2; failed = b.failed; whole = b.whole; none_refused = b.none_refused }

-- ---- a refused record fails by no step
unfailed : (v : Verdict) (o : Outcome) (r : List ℕ) (w : Worked) → w.outcome ≡ o → w.failed ≡ false → code_of (marked (unless_refused o v) r w).outcome ≡ 2 → (marked (unless_refused o v) r w).failed ≡ false
unfailed verdict.No Untouched r w e f h = f
unfailed verdict.Yes Untouched r w e f h = absurd (let z = sym (ap code_of e) ∙ h in omega arith)
unfailed (verdict.Refused n) Untouched r w e f h = refl
unfailed verdict.No (Stored x) r w e f h = f
unfailed verdict.Yes (Stored x) r w e f h = absurd (let z = sym (ap code_of e) ∙ h in omega arith)
unfailed (verdict.Refused n) (Stored x) r w e f h = refl
unfailed v (Refused n) r w e f h = f

abbrev pub Never : (List ℕ → Worked) → Type 0
Never step = (r : List ℕ) → code_of (step r).outcome ≡ 2 → (step r).failed ≡ false

record_never : (m : Model) → Never (record_law m)
unfolding record_law
record_never m r h = refl

failure_never : (m : Model) (l : MaximumStressFailure) (e : CorotatedLinearElasticity) → Never (failure_law m l e)
unfolding failure_law judged_at record_law
failure_never m l e r = go (judge_finite l e)
  where
    go : (b : Bool) → let w = cond b (marked (judged_at m l e r) r (record_law m r)) (refused_record 1 r) in code_of w.outcome ≡ 2 → w.failed ≡ false
    go true h = unfailed _ (record_law m r).outcome r (record_law m r) refl refl h
    go false h = refl

pub step_never : (s : Step) → Never (step_law s)
step_never (Plain m) = record_never m
step_never (Judged m l e) = failure_never m l e

-- ---- of a pass that is not refused
done_same : {b c : FailureCounts} → Done b ≡ Done c → b ≡ c
done_same e = cc

refused_not : {G : Type 0} (n : ℕ) (c : FailureCounts) → pass.Refused n ≡ Done c → G
refused_not n c e = absurd (let z : ◌≡◌ {A = ℕ} 0 1 = cc in omega arith)

module _ (law : List ℕ → Worked) (never : Never law) (xs out : List ℕ) (c : FailureCounts) where
  pub counted_by : passed_with_failure law xs out ≡ Done c → CountsTold law xs (pass_answers law xs out) (length xs / floats) c
  counted_by = go (well_sized xs out)
    where
      go : (b : Bool) → cond b (Done (counts law xs (length xs / floats))) (pass.Refused 8) ≡ Done c
          → CountsTold law xs (cond b (answers law xs (length xs / floats)) out) (length xs / floats) c
      go true e =
          let n = length xs / floats in
          subst (CountsTold law xs (answers law xs n) n) (done_same e) (counts_told law xs never n)
      go false e = refused_not 8 c e

pub pass_counted : (s : Step) (xs out : List ℕ) (c : FailureCounts) → passed_with_failure (step_law s) xs out ≡ Done c
    → CountsTold (step_law s) xs (pass_answers (step_law s) xs out) (length xs / floats) c
pass_counted s = counted_by (step_law s) (step_never s)
