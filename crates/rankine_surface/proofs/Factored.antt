-- Demand 3 and the archive in the passes that factor first (ticket 6: "demands 2 and 3 then speak of these factors"): the law meets the record with our
-- factors, and what is said is said of that record
use mathlib.Core.Path.{◌≡◌, refl, sym, ◌∙◌, subst}
use mathlib.Core.Bool.{Bool, true, false, cond, ◌&&◌}
use mathlib.Core.List.{List}
use Prim.Native.Nat.{ℕ}
use lib.Dec.{eqb}
use Rattle.plasticity.specs.declared.Outcome.{Outcome}
use Rattle.plasticity.specs.declared.Outcome.TheVariants.{Untouched, Stored, Refused}
use Rattle.failure_maximum_stress.specs.declared.MaximumStressFailure.{MaximumStressFailure}
use Rattle.elasticity_corotated_linear.specs.declared.CorotatedLinearElasticity.{CorotatedLinearElasticity}
use Rattle.plasticity_rankine.specs.declared.RankineArguments.{RankineArguments}
use Rattle.model.specs.declared.Model.TheVariants.{Rankine}
use Rattle.model.specs.Model.{model_finite}
use Rattle.particles.specs.Pass.{Worked, record_at}
use Rattle.one_record.specs.RecordLaw.{record_law}
use Rattle.one_record.specs.Judged.{judge_finite, refused_record, failure_law}
use Rattle.factored_particles.specs.Factored.{with_factors, factor_refusal, held_by, or_as_it_came, factored_law}
use Rattle.particles.proofs.PassLaws.{record_keeps}
use Rattle.particles.proofs.JudgedLaws.{failure_keeps}
use Rattle.factored_particles.proofs.FactoredLaws.{factors_length, factored_keeps}
use Rattle.rankine_surface.specs.Surface.{Accepted}
use Rattle.rankine_surface.specs.Record.{Premises, Found, found_of, Demand3At, ArchivesAt, InPass, pass_found, LawStep}
use Rattle.rankine_surface.proofs.Passes.{same, in_pass, found}
use Rattle.rankine_surface.proofs.Records.{record_3, law_found}
use Rattle.rankine_surface.proofs.Stored.{found_archived, marked_archived}

held : (o : Outcome) (old new : List ℕ) → Accepted o → held_by o old new ≡ new
held Untouched old new h = refl
held (Stored a) old new h = refl
held (Refused n) old new h = absurd h

-- a step that isn't refused after our factors is that step on the record with them
module _ (inputs : Bool) (step : List ℕ → Worked) (r : List ℕ) where
  factored_found : Accepted (factored_law inputs step r).outcome → (found_of (factored_law inputs step r) ≡ found_of (step (with_factors r))) × Accepted (step (with_factors r)).outcome
  unfolding factored_law
  factored_found = go inputs (eqb (factor_refusal r) 0)
    where
      go : (a b : Bool) → let w = cond a (cond b (or_as_it_came r (step (with_factors r))) (refused_record (factor_refusal r) r)) (refused_record 1 r) in
          Accepted w.outcome → (found_of w ≡ found_of (step (with_factors r))) × Accepted (step (with_factors r)).outcome
      go true true h = (same refl refl (held (step (with_factors r)).outcome r (step (with_factors r)).after h), h)
      go true false h = absurd h
      go false b h = absurd h

-- the premises of an outcome that isn't refused
of_outcome : {a : RankineArguments} {r : List ℕ} {o p : Outcome} → Premises a r o → Accepted p → Premises a r p
of_outcome g h = record { accepted = h; ranges = g.ranges; s_finite = g.s_finite; strains = g.strains; strength = g.strength }

-- ---- the passes' steps
abbrev pub plain_first : RankineArguments → List ℕ → Worked
plain_first a = factored_law (model_finite (Rankine a)) (record_law (Rankine a))

abbrev pub judged_first : RankineArguments → MaximumStressFailure → CorotatedLinearElasticity → List ℕ → Worked
judged_first a l e = factored_law (model_finite (Rankine a) && judge_finite l e) (failure_law (Rankine a) l e)

pub pass_factored_3 : {a : RankineArguments} {xs out : List ℕ} {i : ℕ} → InPass xs out i
    → Premises a (with_factors (record_at xs i)) (plain_first a (record_at xs i)).outcome
    → Demand3At a (with_factors (record_at xs i)) (pass_found (plain_first a) xs out i)
pass_factored_3 {a} {xs} {out} {i} w g =
    let k = factored_keeps (model_finite (Rankine a)) (record_law (Rankine a)) (record_keeps (Rankine a)) in
    let f = factored_found (model_finite (Rankine a)) (record_law (Rankine a)) (record_at xs i) g.accepted in
    subst (Demand3At a (with_factors (record_at xs i))) (sym (found (plain_first a) k xs out i w ∙ f.0))
    (record_3 (factors_length (record_at xs i) ∙ in_pass (plain_first a) k xs out i w) (of_outcome g f.1))

pub pass_factored_with_failure_3 : (l : MaximumStressFailure) (e : CorotatedLinearElasticity) {a : RankineArguments} {xs out : List ℕ} {i : ℕ} → InPass xs out i
    → Premises a (with_factors (record_at xs i)) (judged_first a l e (record_at xs i)).outcome
    → LawStep a l e (with_factors (record_at xs i)) (pass_found (judged_first a l e) xs out i)
pass_factored_with_failure_3 l e {a} {xs} {out} {i} w g =
    let own = model_finite (Rankine a) && judge_finite l e in
    let k = factored_keeps own (failure_law (Rankine a) l e) (failure_keeps (Rankine a) l e) in
    let f = factored_found own (failure_law (Rankine a) l e) (record_at xs i) g.accepted in
    let h = law_found a l e (with_factors (record_at xs i)) f.1 in
    record {
      law = record_3 (factors_length (record_at xs i) ∙ in_pass (judged_first a l e) k xs out i w) (of_outcome g h.1);
      found = found (judged_first a l e) k xs out i w ∙ f.0 ∙ h.0;
    }

-- ---- in the archive
pub pass_factored_archived : {a : RankineArguments} {xs out : List ℕ} {i : ℕ} → InPass xs out i
    → Premises a (with_factors (record_at xs i)) (plain_first a (record_at xs i)).outcome
    → ArchivesAt a (with_factors (record_at xs i)) (pass_found (plain_first a) xs out i)
pass_factored_archived w g = found_archived (pass_factored_3 w g)

pub pass_factored_with_failure_archived : (l : MaximumStressFailure) (e : CorotatedLinearElasticity) {a : RankineArguments} {xs out : List ℕ} {i : ℕ} → InPass xs out i
    → Premises a (with_factors (record_at xs i)) (judged_first a l e (record_at xs i)).outcome
    → ArchivesAt a (with_factors (record_at xs i)) (pass_found (judged_first a l e) xs out i)
pass_factored_with_failure_archived l e {a} {xs} {out} {i} w g =
    let d = pass_factored_with_failure_3 l e w g in
    let r = with_factors (record_at xs i) in
    subst (ArchivesAt a r) (sym d.found) (marked_archived a r (failure_law (Rankine a) l e r).failed _ (found_archived d.law))
