-- The pass with failure keeps a record's length; a record fails exactly on a yes where nothing is refused. Assumes nothing.
use mathlib.Core.Path.{◌≡◌, refl, sym, ap, ◌∙◌}
use mathlib.Core.Bool.{Bool, true, false, cond, false≢true}
use mathlib.Core.List.{List}
use Prim.Native.Nat.{ℕ}
use lib.ListN.{length, length-set}
use native.Mathlib.Omega.{arith}
use Rattle.record.specs.Layout.{state_at}
use Rattle.plasticity.specs.declared.Outcome.{Outcome}
use Rattle.plasticity.specs.declared.Outcome.TheVariants as outcome
use Rattle.failure_maximum_stress.specs.declared.MaximumStressFailure.{MaximumStressFailure}
use Rattle.failure_maximum_stress.specs.declared.Verdict.{Verdict}
use Rattle.failure_maximum_stress.specs.declared.Verdict.TheVariants.{No, Yes, Refused}
use Rattle.elasticity_corotated_linear.specs.declared.CorotatedLinearElasticity.{CorotatedLinearElasticity}
use Rattle.model.specs.declared.Model.{Model}
use Rattle.particles.specs.Pass.{Worked, code_of}
use Rattle.one_record.specs.RecordLaw.{law_at, record_law}
use Rattle.one_record.specs.Judged.{judge_finite, verdict_after, unless_refused, judged_at, refused_record, marked, failure_law}
use Rattle.particles.specs.declared.step.Step.{Step}
use Rattle.particles.specs.declared.step.Step.TheVariants.{Plain, Judged}
use Rattle.particles.specs.Step.{step_law}
use Rattle.particles.proofs.PassLaws.{Keeps, record_keeps}

pub marked_length : (v : Verdict) (r : List ℕ) (w : Worked) → length w.after ≡ length r → length (marked v r w).after ≡ length r
marked_length No r w h = h
marked_length Yes r w h = length-set w.after _ _ ∙ h
marked_length (Refused n) r w h = refl

pub failure_keeps : (m : Model) (l : MaximumStressFailure) (e : CorotatedLinearElasticity) → Keeps (failure_law m l e)
unfolding failure_law
failure_keeps m l e r = go (judge_finite l e)
  where
    go : (b : Bool) → length (cond b (marked (judged_at m l e r) r (record_law m r)) (refused_record 1 r)).after ≡ length r
    go true = marked_length (judged_at m l e r) r (record_law m r) (record_keeps m r)
    go false = refl

-- every step of a pass keeps a record's length
pub step_keeps : (s : Step) → Keeps (step_law s)
step_keeps (Plain m) = record_keeps m
step_keeps (Judged m l e) = failure_keeps m l e

-- ---- a record fails exactly on a yes where nothing is refused
pub record Failed (m : Model) (l : MaximumStressFailure) (e : CorotatedLinearElasticity) (r : List ℕ) : Type 0 where
  pub inputs : judge_finite l e ≡ true
  pub stands : (n : ℕ) → (record_law m r).outcome ≡ outcome.Refused n → ⊥
  pub yes : verdict_after l e (state_at r).scalars.phase (law_at m r).state ≡ Yes

other : (n : ℕ) (o : Outcome) → (code_of o ≡ 2 → ⊥) → o ≡ outcome.Refused n → ⊥
other n o h e = h (ap code_of e)

only_yes : (v : Verdict) (r : List ℕ) (w : Worked) → w.failed ≡ false → (marked v r w).failed ≡ true → v ≡ Yes
only_yes No r w f h = absurd (false≢true (sym f ∙ h))
only_yes Yes r w f h = refl
only_yes (Refused n) r w f h = absurd (false≢true h)

skipped : (o : Outcome) (v : Verdict) → unless_refused o v ≡ Yes → (v ≡ Yes) × (code_of o ≡ 2 → ⊥)
skipped outcome.Untouched v h = (h, λ z. omega (arith, z))
skipped (outcome.Stored a) v h = (h, λ z. omega (arith, z))
skipped (outcome.Refused n) v h = absurd (let q : ◌≡◌ {A = ℕ} 0 1 = cc in omega arith)

judged_yes : (o : Outcome) (v : Verdict) → ((n : ℕ) → o ≡ outcome.Refused n → ⊥) → v ≡ Yes → unless_refused o v ≡ Yes
judged_yes outcome.Untouched v h e = e
judged_yes (outcome.Stored a) v h e = e
judged_yes (outcome.Refused n) v h e = absurd (h n refl)

module _ (m : Model) (l : MaximumStressFailure) (e : CorotatedLinearElasticity) (r : List ℕ) where
  pub failed_when : (failure_law m l e r).failed ≡ true → Failed m l e r
  unfolding failure_law judged_at record_law
  failed_when h = go (judge_finite l e) refl h
    where
      go : (b : Bool) → judge_finite l e ≡ b → (cond b (marked (judged_at m l e r) r (record_law m r)) (refused_record 1 r)).failed ≡ true → Failed m l e r
      go true f k =
          let y = skipped (law_at m r).outcome _ (only_yes (judged_at m l e r) r (record_law m r) refl k) in
          record { inputs = f; stands = λ n. other n (law_at m r).outcome y.1; yes = y.0 }
      go false f k = absurd (false≢true k)

  pub failed_then : Failed m l e r → (failure_law m l e r).failed ≡ true
  unfolding failure_law judged_at record_law
  failed_then f = rw (f.inputs, judged_yes (law_at m r).outcome _ f.stands f.yes) refl
