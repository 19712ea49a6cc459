-- Demand 3 of a record that Rankine's law works, and of a record in a pass
use mathlib.Core.Bool.{Bool, true, false, cond}
use mathlib.Core.Path.{◌≡◌, refl, sym, ap, ◌∙◌, subst}
use mathlib.Core.List.{List, [], ◌∷◌}
use Prim.Native.Nat.{ℕ, ◌+◌}
use native.Mathlib.Omega.{arith}
use lib.ListN.{length}
use Rattle.plasticity.specs.declared.Outcome.{Outcome}
use Rattle.plasticity.specs.declared.Outcome.TheVariants as outcome
use Rattle.plasticity.specs.declared.Updated.{Updated}
use Rattle.record.specs.Layout.{floats, place_sigma, u_at, vt_at, state_at}
use Rattle.failure_maximum_stress.specs.declared.MaximumStressFailure.{MaximumStressFailure}
use Rattle.failure_maximum_stress.specs.declared.Verdict.{Verdict}
use Rattle.failure_maximum_stress.specs.declared.Verdict.TheVariants as verdict
use Rattle.elasticity_corotated_linear.specs.declared.CorotatedLinearElasticity.{CorotatedLinearElasticity}
use Rattle.plasticity_rankine.specs.declared.RankineArguments.{RankineArguments}
use Rattle.plasticity_rankine.specs.Rankine.{arguments_update}
use Rattle.model.specs.declared.Model.TheVariants.{Rankine}
use Rattle.one_record.specs.RecordLaw.{updated_at, record_law}
use Rattle.particles.specs.Pass.{code_of, record_at}
use Rattle.one_record.specs.Judged.{judge_finite, judged_at, refused_record, marked, failure_law}
use Rattle.particles.proofs.PassLaws.{record_keeps}
use Rattle.particles.proofs.JudgedLaws.{failure_keeps}
use Rattle.particles.proofs.Determinants.{Stands, unrefused, unrefused_law}
use Rattle.rankine_surface.specs.Surface.{Accepted}
use Rattle.rankine_surface.specs.Record.{three_records, Premises, Found, found_of, Demand3At, InPass, pass_found, marked_by, LawStep}
use Rattle.rankine_surface.proofs.Update.{arguments_3}
use Rattle.rankine_surface.proofs.Left.{read_f64, left, left_3}
use Rattle.rankine_surface.proofs.Places.{puts}
use Rattle.rankine_surface.proofs.Passes.{in_pass, found}

-- what isn't refused stands
stands : (o : Outcome) → Accepted o → Stands o
stands outcome.Untouched h n e = let q = ap code_of e in omega arith
stands (outcome.Stored a) h n e = let q = ap code_of e in omega arith
stands (outcome.Refused k) h n e = h

-- the record that the update v leaves
abbrev left_at : RankineArguments → List ℕ → Updated → Found
left_at a r v = left three_records (puts a) a r v

update_3 : {a : RankineArguments} {r : List ℕ} → length r ≡ floats → Premises a r (updated_at (Rankine a) r).outcome → Demand3At a r (left_at a r (updated_at (Rankine a) r))
unfolding updated_at
update_3 {a} {r} k g =
    left_3 three_records (puts a) a r (arguments_update a (u_at r) (vt_at r) (state_at r)) k g.strength
    (arguments_3 (u_at r) (vt_at r) (record { accepted = g.accepted; s_finite = g.s_finite; ranges = g.ranges; axes = refl; sigma = read_f64 r (place_sigma ∷ (place_sigma + 1) ∷ (place_sigma + 2) ∷ []); strains = g.strains }))

-- a record that isn't refused is worked by the law
pub record_3 : {a : RankineArguments} {r : List ℕ} → length r ≡ floats → Premises a r (record_law (Rankine a) r).outcome
    → Demand3At a r (found_of (record_law (Rankine a) r))
unfolding record_law
record_3 {a} {r} k g =
    let q = unrefused_law (Rankine a) r (unrefused (Rankine a) r (stands (record_law (Rankine a) r).outcome g.accepted)) in
    subst (λ (v : Updated). Demand3At a r (left_at a r v)) (sym q) (update_3 k (subst (λ (v : Updated). Premises a r v.outcome) q g))

pub pass_3 : {a : RankineArguments} {xs out : List ℕ} {i : ℕ} → InPass xs out i
    → Premises a (record_at xs i) (record_law (Rankine a) (record_at xs i)).outcome
    → Demand3At a (record_at xs i) (pass_found (record_law (Rankine a)) xs out i)
pass_3 {a} {xs} {out} {i} w g =
    let law = record_law (Rankine a) in
    let k = record_keeps (Rankine a) in
    subst (Demand3At a (record_at xs i)) (sym (found law k xs out i w)) (record_3 (in_pass law k xs out i w) g)

-- ---- the pass with failure: the law meets the record as it came, and phase is set after it
module _ (a : RankineArguments) (l : MaximumStressFailure) (e : CorotatedLinearElasticity) (r : List ℕ) where
  step_found : (b : Bool) (v : Verdict) → let w = cond b (marked v r (record_law (Rankine a) r)) (refused_record 1 r) in
      Accepted w.outcome → (found_of w ≡ marked_by w.failed (found_of (record_law (Rankine a) r))) × Accepted (record_law (Rankine a) r).outcome
  unfolding record_law
  step_found true verdict.No h = (refl, h)
  step_found true verdict.Yes h = (refl, h)
  step_found true (verdict.Refused n) h = absurd h
  step_found false v h = absurd h

  pub law_found : Accepted (failure_law (Rankine a) l e r).outcome
      → (found_of (failure_law (Rankine a) l e r) ≡ marked_by (failure_law (Rankine a) l e r).failed (found_of (record_law (Rankine a) r))) × Accepted (record_law (Rankine a) r).outcome
  unfolding failure_law
  law_found h = step_found (judge_finite l e) (judged_at (Rankine a) l e r) h

pub pass_with_failure_3 : (l : MaximumStressFailure) (e : CorotatedLinearElasticity) {a : RankineArguments} {xs out : List ℕ} {i : ℕ} → InPass xs out i
    → Premises a (record_at xs i) (failure_law (Rankine a) l e (record_at xs i)).outcome
    → LawStep a l e (record_at xs i) (pass_found (failure_law (Rankine a) l e) xs out i)
pass_with_failure_3 l e {a} {xs} {out} {i} w g =
    let law = failure_law (Rankine a) l e in
    let k = failure_keeps (Rankine a) l e in
    let f = law_found a l e (record_at xs i) g.accepted in
    record {
      law = record_3 (in_pass law k xs out i w)
          (record { accepted = f.1; ranges = g.ranges; s_finite = g.s_finite; strains = g.strains; strength = g.strength });
      found = found law k xs out i w ∙ f.0;
    }
