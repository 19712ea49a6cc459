-- Section 6 of each call that takes a record (specs/Told): the law itself, of finite floats, gives only 2, 3 and 10. Assumes nothing.
use mathlib.Core.Path.{◌≡◌, refl, ap, sym, subst, ◌∙◌}
use mathlib.Core.Bool.{Bool, true, false, cond, ◌&&◌, false≢true}
use mathlib.Core.List.{List, [], ◌∷◌, ◌++◌}
use mathlib.Core.Logic.Iff
use mathlib.Core.Logic.{◌⊎◌, inl, inr, ◌↔◌}
use Prim.Native.Nat.{ℕ, ◌≤◌, ◌<◌}
use native.Mathlib.Omega.{arith}
use lib.Ieee.{Float}
use Rattle.answers.specs.Refusals.{not_finite, wrong_length, wrong_determinant, above_range, not_accepted}
use Rattle.answers.specs.declared.Answer.{Answer}
use Rattle.answers.specs.declared.Answer.TheVariants.{Refused}
use Rattle.numbers.specs.Floats.{finite}
use Rattle.numbers.proofs.Laws.{and_both}
use Rattle.tensor.specs.Axes.{all_of}
use Rattle.tensor.specs.Answer.{refused_matrix}
use Rattle.walk.specs.Walk.{Walk, inputs, refused, walk_result, answer_as}
use Rattle.walk.specs.Exact.{path}
use Rattle.walk.specs.Matrix.{joined}
use Rattle.walk.specs.Numbers.{Stops}
use Rattle.walk.specs.Answers.{returned, matrix_as}
use Rattle.walk.proofs.Answers.{number_refused, matrix_refused}
use Rattle.walk.proofs.Inner.{Inner, later, between, never_one}
use Rattle.record.specs.Layout.{place_f, place_sigma, place_phase, place_elastic_hardening, float_at, row_at, mat_at, u_at, vt_at, record_finite}
use Rattle.elasticity_neo_hookean.specs.declared.NeoHookeanElasticity.{NeoHookeanElasticity}
use Rattle.elasticity_neo_hookean.specs.Law as neo
use Rattle.elasticity_neo_hookean.specs.Stress as neo_stress
use Rattle.elasticity_neo_hookean.specs.Energy as neo_energy
use Rattle.elasticity_neo_hookean.proofs.Laws as neo_laws
use Rattle.elasticity_corotated_linear.specs.declared.CorotatedLinearElasticity.{CorotatedLinearElasticity}
use Rattle.elasticity_corotated_linear.specs.Law as corotated
use Rattle.elasticity_corotated_linear.specs.Stress as corotated_stress
use Rattle.elasticity_corotated_linear.specs.Energy as corotated_energy
use Rattle.elasticity_corotated_linear.proofs.Laws as corotated_laws
use Rattle.failure_maximum_stress.specs.Failure.{limits_finite}
use Rattle.failure_maximum_stress.specs.declared.MaximumStressFailure.{MaximumStressFailure}
use Rattle.solid.specs.OfRecord.{of_record}
use Rattle.solid.specs.Judged.{refused_judged, judged_of}
use Rattle.solid.specs.Told.{Other, ToldNumber, ToldMatrix, ToldJudged, NeoHookeanTold, CorotatedTold}
use Rattle.solid.proofs.NeoHookeanStored as neo_stored
use Rattle.solid.proofs.CorotatedStored as corotated_stored
use Rattle.solid.proofs.Numbers.{all_told}
use Rattle.solid.proofs.Entries.{Ends, diagonal_finite, neo_ends, corotated_ends}
use Rattle.solid.proofs.Ways.{all_judged}

-- ---- what stops a walk without inputs
neither : (n m : ℕ) → ((1 ≤ n) × (n ≤ 3)) ⊎ (n ≡ above_range) → (m ≡ wrong_length) ⊎ (m ≡ wrong_determinant) → n ≡ m → ⊥
neither n m (inl q) (inl k) e = let z = q.1 in omega arith
neither n m (inl q) (inr k) e = let z = q.1 in omega arith
neither n m (inr q) (inl k) e = omega arith
neither n m (inr q) (inr k) e = omega arith

other : {A : Type 0} (w : Walk A) → Inner w → (n : ℕ) → (0 < n → Stops n (path w)) → Other n
other w h n q =
    (λ e. neither n wrong_length (between (path w) n (q (omega arith))) (inl refl) e, λ e. never_one (path w) (later w h) (subst (λ k. Stops k (path w)) e (q (omega arith))), λ e. neither n wrong_determinant (between (path w) n (q (omega arith))) (inr refl) e)

not_fourteen : (n : ℕ) → ((1 ≤ n) × (n ≤ 3)) ⊎ (n ≡ above_range) → n ≡ not_accepted → ⊥
not_fourteen n (inl q) e = let z = q.1 in omega arith
not_fourteen n (inr q) e = omega arith

-- what is finite with the limits is so without them
without : (k l f : Bool) → (k && l) && f ≡ true → k && f ≡ true
without true true f q = q
without true false f q = absurd (false≢true q)
without false l f q = q

-- ---- a number, a matrix
number_says : (m n : ℕ) → (◌≡◌ {A = Answer} (Refused m) (Refused n)) ↔ (m ≡ n)
number_says m n = (λ e. cc, λ e. ap Refused e)

module _ (l : List Float) (k : all_of finite l ≡ true) where
  number_other : (w : Walk Float) → Inner w → (n : ℕ) → answer_as (walk_result (inputs l w)) ≡ Refused n → Other n
  number_other w h n q = other w h n (λ _. (number_refused w n).0 (ap (λ b. answer_as (cond b (walk_result w) (refused not_finite))) (sym k) ∙ q))

  matrix_other : (w : Walk (List (List Float))) → Inner w → (n : ℕ) → (matrix_as (walk_result (inputs l w))).refusal ≡ n → Other n
  matrix_other w h n q = other w h n (λ z. (matrix_refused w n).0 (z, ap (λ b. (matrix_as (cond b (walk_result w) (refused not_finite))).refusal) (sym k) ∙ q))

  matrix_not_fourteen : (w : Walk (List (List Float))) → (n : ℕ) → (matrix_as (walk_result (inputs l w))).refusal ≡ n → n ≡ not_accepted → ⊥
  matrix_not_fourteen w n q e =
      not_fourteen n (between (path w) n ((matrix_refused w n).0 (omega arith, ap (λ b. (matrix_as (cond b (walk_result w) (refused not_finite))).refusal) (sym k) ∙ q))) e

-- ---- of the calls
module _ (r : List ℕ) where
  abbrev phase : Float
  phase = float_at r place_phase

  abbrev h : Float
  h = float_at r place_elastic_hardening

  abbrev f : List (List Float)
  f = mat_at r place_f

  abbrev s : List Float
  s = row_at r place_sigma

  -- a matrix that the law works of floats l by steps w
  matrix_told : (ok : Bool) (l : List Float) (w : Walk (List (List Float))) → Inner w → (ok && record_finite r ≡ true → all_of finite l ≡ true)
      → ToldMatrix (of_record refused_matrix ok r (matrix_as (walk_result (inputs l w)))) (matrix_as (walk_result (inputs l w))) ok r
  matrix_told ok l w i k = all_told refused_matrix (λ a n. a.refusal ≡ n) (λ m n. Iff.rfl) (matrix_as (walk_result (inputs l w))) ok r (λ q. matrix_other l (k q) w i)

  -- with the verdict
  judged_told : (ok : Bool) (l : List Float) (w : Walk (List (List Float))) → Inner w → Ends w → (ok && record_finite r ≡ true → all_of finite l ≡ true) → (b : MaximumStressFailure)
      → ToldJudged b (of_record refused_judged (ok && limits_finite b) r (judged_of b (matrix_as (walk_result (inputs l w))))) (matrix_as (walk_result (inputs l w))) (ok && limits_finite b) r
  judged_told ok l w i d k b =
      all_judged b (matrix_as (walk_result (inputs l w))) (ok && limits_finite b) r
      (λ q. (and_both ok (limits_finite b) (and_both (ok && limits_finite b) (record_finite r) q).0).1)
      (λ q n e. let f = k (without ok (limits_finite b) (record_finite r) q) in (matrix_other l f w i n e, matrix_not_fourteen l f w n e))
      (diagonal_finite (inputs l w) d)

  -- and a number
  number_told : (ok : Bool) (l : List Float) (w : Walk Float) → Inner w → (ok && record_finite r ≡ true → all_of finite l ≡ true)
      → ToldNumber (of_record Refused ok r (answer_as (walk_result (inputs l w)))) (answer_as (walk_result (inputs l w))) ok r
  number_told ok l w i k = all_told Refused (λ a n. a ≡ Refused n) number_says (answer_as (walk_result (inputs l w))) ok r (λ q. number_other l (k q) w i)

  pub neo_hookean : (p : NeoHookeanElasticity) → NeoHookeanTold p r
  unfolding neo_stress.kirchhoff_walk neo_stress.fpk_walk neo_energy.energy_walk_in neo_energy.pos_walk
  neo_hookean p =
      let ok = neo.law_finite p in
      let l = neo.floats p (phase ∷ h ∷ []) f in
      record {
        judged = judged_told ok l (neo_stress.kirchhoff_steps p phase h f) (neo_laws.kirchhoff_inner p phase h f) (neo_ends p phase h f) (neo_stored.all_finite p r);
        fpk = matrix_told ok (neo.floats p (h ∷ []) f) (neo_stress.fpk_steps p f h) (neo_laws.fpk_inner p f h) (neo_stored.fpk_finite p r);
        energy = λ m. number_told ok l (neo_energy.energy_steps m p phase h f) (neo_laws.energy_inner m p phase h f) (neo_stored.all_finite p r);
        pos_energy_lem = number_told ok l (neo_energy.pos_steps p phase h f) (neo_laws.pos_inner p phase h f) (neo_stored.all_finite p r);
      }

  pub corotated_linear : (p : CorotatedLinearElasticity) → CorotatedTold p r
  unfolding corotated_stress.stress_walk corotated_energy.energy_walk corotated_energy.pos_walk
  corotated_linear p =
      let ok = corotated.law_finite p in
      let u = u_at r in
      let vt = vt_at r in
      record {
        judged = judged_told ok (corotated.floats p ((phase ∷ h ∷ []) ++ joined f ++ joined u ++ s ++ joined vt)) (corotated_stress.stress_steps p phase h f u s vt) (corotated_laws.stress_inner p phase h f u s vt) (corotated_ends p phase h f u s vt) (corotated_stored.all_finite p r);
        energy = number_told ok (corotated.floats p (s ++ (h ∷ []))) (returned 1 (corotated_energy.density p s h)) tt (corotated_stored.energy_finite p r);
        pos_energy_lem = number_told ok (corotated.floats p (joined f ++ s ++ (h ∷ []))) (corotated_energy.pos_steps p f s h) (corotated_laws.pos_inner p s h f) (corotated_stored.pos_finite p r);
      }
