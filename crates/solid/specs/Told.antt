-- RULES, section 6, "When, and only then", of the calls that take a record: 8, 1 and 11 come exactly so, any other number exactly where the law gives it, and 14
-- of stress and verdict where the stress's principal values miss their check. Proved in proofs/Told.
use Rattle.std.specs.Prelude.{Bool, true, false, ◌&&◌, List, ◌↔◌, ◌≡◌, ℕ, length, get_or, Float}
use Rattle.answers.specs.Refusals.{not_finite, wrong_length, wrong_determinant, not_accepted}
use Rattle.answers.specs.declared.Answer.{Answer}
use Rattle.answers.specs.declared.Answer.TheVariants.{Refused}
use Rattle.tensor.specs.Matrix.{three, at, of_rows}
use Rattle.tensor.specs.declared.MatrixAnswer.{MatrixAnswer}
use Rattle.factors.specs.PrincipalValues.{principal_of, principal_accepted}
use Rattle.factors.specs.Diagonal.{Zero}
use Rattle.failure_maximum_stress.specs.Failure.{limits_finite, exceeds_of}
use Rattle.failure_maximum_stress.specs.declared.MaximumStressFailure.{MaximumStressFailure}
use Rattle.record.specs.Layout.{floats, place_f, place_sigma, place_phase, place_elastic_hardening, place_determinant, float_at, row_at, mat_at, record_finite, determinant_at}
use Rattle.elasticity_neo_hookean.specs.declared.NeoHookeanElasticity.{NeoHookeanElasticity}
use Rattle.elasticity_neo_hookean.specs.Law as neo
use Rattle.elasticity_neo_hookean.specs.Stress as neo_stress
use Rattle.elasticity_neo_hookean.specs.Energy as neo_energy
use Rattle.elasticity_corotated_linear.specs.declared.CorotatedLinearElasticity.{CorotatedLinearElasticity}
use Rattle.elasticity_corotated_linear.specs.Law as corotated
use Rattle.elasticity_corotated_linear.specs.Energy as corotated_energy
use Rattle.solid.specs.NeoHookean as by_neo
use Rattle.solid.specs.Corotated as by_corotated
use Rattle.solid.specs.Judged.{refused_judged, judged_of}
use Rattle.solid.specs.declared.StressVerdict.{StressVerdict}

-- the stored determinant is that of F, in every bit
abbrev pub Right : List ℕ → Type 0
Right r = get_or r place_determinant 0 ≡ determinant_at r

-- none of the three
abbrev pub Other : ℕ → Type 0
Other n = (n ≡ wrong_length → ⊥) × (n ≡ not_finite → ⊥) × (n ≡ wrong_determinant → ⊥)

-- R n: the call is refused by n; own n: so is the law, of the record's F; ok: the law's floats are finite
pub record Told (R : ℕ → Type 0) (own : ℕ → Type 0) (ok : Bool) (r : List ℕ) : Type 0 where
  pub eight : R wrong_length ↔ (length r ≡ floats → ⊥)
  pub one : R not_finite ↔ ((length r ≡ floats) × (ok && record_finite r ≡ false))
  pub eleven : R wrong_determinant ↔ ((length r ≡ floats) × (ok && record_finite r ≡ true) × (Right r → ⊥))
  pub other : (n : ℕ) → Other n → R n ↔ (((length r ≡ floats) × (ok && record_finite r ≡ true) × Right r) × own n)

-- of a number and of a matrix: a is the call's answer, x the law's
abbrev pub ToldNumber : Answer → Answer → Bool → List ℕ → Type 0
ToldNumber a x ok r = Told (λ n. a ≡ Refused n) (λ n. x ≡ Refused n) ok r

abbrev pub ToldMatrix : MatrixAnswer → MatrixAnswer → Bool → List ℕ → Type 0
ToldMatrix a x ok r = Told (λ n. a.refusal ≡ n) (λ n. x.refusal ≡ n) ok r

-- ---- stress and verdict: x is the law's stress
-- none of 8, 1 and 11
abbrev pub Clear : Bool → List ℕ → Type 0
Clear ok r = (length r ≡ floats) × (ok && record_finite r ≡ true) × Right r

abbrev pub principals : MatrixAnswer → List Float
principals x = (principal_of (of_rows x.matrix)).values

-- the check of the stress's principal values
abbrev pub accepted : MatrixAnswer → Bool
accepted x = principal_accepted (of_rows x.matrix) (principal_of (of_rows x.matrix))

abbrev pub entry : MatrixAnswer → ℕ → ℕ → Float
entry x i j = at (of_rows x.matrix) i j

abbrev pub diagonal : MatrixAnswer → List Float
diagonal x = three (entry x 0 0) (entry x 1 1) (entry x 2 2)

abbrev pub together : MatrixAnswer → Bool → StressVerdict
together x failed = record { refusal = 0; stress = x.matrix; failed = failed }

pub record ToldJudged (l : MaximumStressFailure) (a : StressVerdict) (x : MatrixAnswer) (ok : Bool) (r : List ℕ) : Type 0 where
  -- 8, 1 and 11, and what comes after them
  pub before : Told (λ n. a.refusal ≡ n) (λ n. (judged_of l x).refusal ≡ n) ok r
  -- the stress's own number
  pub own : (n : ℕ) → Other n → (n ≡ 0 → ⊥) → (n ≡ not_accepted → ⊥) → (a.refusal ≡ n) ↔ (Clear ok r × (x.refusal ≡ n))
  -- 14 after it
  pub fourteen : (a.refusal ≡ not_accepted) ↔ (Clear ok r × ((x.refusal ≡ 0) × (accepted x ≡ false)))
  -- nothing else refuses: that stress, and the verdict on its principal values
  pub answered : (a.refusal ≡ 0) ↔ (Clear ok r × ((x.refusal ≡ 0) × (accepted x ≡ true)))
  pub both : a.refusal ≡ 0 → a ≡ together x (exceeds_of l (principals x))
  -- beside a refusal nothing stands
  pub neither : (a.refusal ≡ 0 → ⊥) → a ≡ refused_judged a.refusal
  -- a diagonal stress, its lower triangle zeros of either sign, is always accepted, and judged by its entries
  pub on_diagonal : Clear ok r → x.refusal ≡ 0 → Zero (entry x 1 0) → Zero (entry x 2 0) → Zero (entry x 2 1)
      → a ≡ together x (exceeds_of l (diagonal x))

pub record NeoHookeanTold (p : NeoHookeanElasticity) (r : List ℕ) : Type 0 where
  pub judged : (l : MaximumStressFailure) → ToldJudged l (by_neo.stress_and_verdict p l r) (by_neo.stress_at p r) (neo.law_finite p && limits_finite l) r
  pub fpk : ToldMatrix (by_neo.fpk_stress p r) (neo_stress.fpk_stress p (mat_at r place_f) (float_at r place_elastic_hardening)) (neo.law_finite p) r
  -- in either mode
  pub energy : (m : Bool) → ToldNumber (by_neo.elastic_energy_density_in m p r) (neo_energy.elastic_energy_density_in m p (float_at r place_phase) (float_at r place_elastic_hardening) (mat_at r place_f)) (neo.law_finite p) r
  pub pos_energy_lem : ToldNumber (by_neo.pos_energy p r) (neo_energy.pos_energy p (float_at r place_phase) (float_at r place_elastic_hardening) (mat_at r place_f)) (neo.law_finite p) r

pub record CorotatedTold (p : CorotatedLinearElasticity) (r : List ℕ) : Type 0 where
  pub judged : (l : MaximumStressFailure) → ToldJudged l (by_corotated.stress_and_verdict p l r) (by_corotated.stress_at p r) (corotated.law_finite p && limits_finite l) r
  pub energy : ToldNumber (by_corotated.elastic_energy_density p r) (corotated_energy.elastic_energy_density p (row_at r place_sigma) (float_at r place_elastic_hardening)) (corotated.law_finite p) r
  pub pos_energy_lem : ToldNumber (by_corotated.pos_energy p r) (corotated_energy.pos_energy p (mat_at r place_f) (row_at r place_sigma) (float_at r place_elastic_hardening)) (corotated.law_finite p) r
