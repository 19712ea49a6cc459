-- Section 6 of the calls that give a number, two numbers, a matrix or a verdict, a field a call, by what its contract cites. Proved in
-- proofs/Calls. A call whose contract is one formula, and the quadratic, have their walk here; the others in their own crates.
use Rattle.std.specs.Prelude.{◌≡◌, ◌&&◌, List, [], ◌∷◌, ◌++◌, ℕ, ◌<◌, Float}
use Rattle.numbers.specs.Floats.{finite}
use Rattle.answers.specs.Answer.{answered_of, given, pair_of, given_pair}
use Rattle.answers.specs.declared.Pair.{Pair}
use Rattle.answers.specs.declared.Pair.TheVariants as pair
use Rattle.tensor.specs.Matrix.{of_rows}
use Rattle.tensor.specs.Answer.{answered, answered_vector, given_matrix, given_vector}
use Rattle.tensor.specs.Finite.{row_finite, mat_finite}
use Rattle.tensor.specs.declared.MatrixAnswer.{MatrixAnswer}
use Rattle.numbers.specs.Constants.{two, four}
use Rattle.physics.specs.Physics.{inv_exact_of, shear_modulus_of, bulk_modulus_of, lambda_of, shear_from_lame_of, bulk_from_lame_of}
use Rattle.physics.specs.Quadratic.{solve_quadratic_of}
use Rattle.decomposed.specs.Decomposed.{spherical_of, deviatoric_of, decompose_of, recomposed_of, sum_of, times_of, tensor_finite, answered_tensor, given_tensor}
use Rattle.decomposed.specs.declared.DecomposedTensor.{DecomposedTensor}
use Rattle.decomposed.specs.Rates.{spin_tensor_of, strain_rate_of}
use Rattle.walk.specs.Expr.{Expr, num, nums, neg, ◌+ᵉ◌, ◌-ᵉ◌, ◌*ᵉ◌, ◌/ᵉ◌, value, values}
use Rattle.walk.specs.Walk.{Walk, root, inputs, ask, results, end, walk_result, answer_as}
use Rattle.walk.specs.Exact.{Met, path}
use Rattle.walk.specs.Matrix.{joined}
use Rattle.walk.specs.Tensor.{rows}
use Rattle.walk.specs.Answers.{returned, returned_matrix}
use Rattle.plasticity_drucker_prager.specs.declared.DruckerPragerPlasticity.{DruckerPragerPlasticity}
use Rattle.plasticity_drucker_prager.specs.Alpha.{alpha_call}
use Rattle.failure_maximum_stress.specs.declared.MaximumStressFailure.{MaximumStressFailure}
use Rattle.failure_maximum_stress.specs.Failure.{exceeds_of, verdict_of}
use Rattle.elasticity_neo_hookean.specs.declared.NeoHookeanElasticity.{NeoHookeanElasticity}
use Rattle.elasticity_neo_hookean.specs.Law as neo_hookean
use Rattle.elasticity_neo_hookean.specs.Stress as neo_stress
use Rattle.elasticity_neo_hookean.specs.Energy as neo_energy
use Rattle.elasticity_corotated_linear.specs.declared.CorotatedLinearElasticity.{CorotatedLinearElasticity}
use Rattle.elasticity_corotated_linear.specs.Stress as corotated_stress
use Rattle.elasticity_corotated_linear.specs.Energy as corotated_energy
use Rattle.eos_monaghan_sph.specs.declared.MonaghanSphEos.{MonaghanSphEos}
use Rattle.eos_monaghan_sph.specs.Pressure as monaghan
use Rattle.eos_monaghan_sph.specs.Stress as monaghan_stress
use Rattle.eos_monaghan_sph.specs.Timestep as monaghan_timestep
use Rattle.refusals.specs.Refusals.{Numbers, Gives}
use Rattle.refusals.specs.Enums.{verdict_number, verdict_failed}

abbrev pub GivesPair : Pair → List Met → Type 0
GivesPair e ms = Numbers (λ n. e ≡ pair.Refused n) ms

-- the refusal stands beside the matrix or the vector, 0 where there is none
abbrev pub Beside : ℕ → List Met → Type 0
Beside refusal ms = Numbers (λ n. (0 < n) × (refusal ≡ n)) ms

-- ---- a result with nothing met before it
-- inputs l, then a number, a matrix; a NaN in a part of its formula comes through to the result
abbrev pub number_path : List Float → Float → List Met
number_path l x = path (inputs l (returned 1 (num x)))

abbrev pub matrix_path : List Float → List (List Float) → List Met
matrix_path l m = path (inputs l (returned_matrix 1 (rows m)))

-- a tensor's floats
abbrev pub floats_in : DecomposedTensor → List Float
floats_in t = joined (of_rows t.deviatoric_part) ++ (t.spherical_part ∷ [])

abbrev pub pair_walk : List Float → Expr → Expr → Walk Float
pair_walk l a b = inputs l (results 1 ((a ∷ b ∷ []) ∷ []) (end (value a)))

abbrev pub vector_walk : List Float → List Expr → Walk (List Float)
vector_walk l v = inputs l (results 1 (v ∷ []) (end (values v)))

abbrev pub tensor_walk : List Float → DecomposedTensor → Walk DecomposedTensor
tensor_walk l t = inputs l (results 1 (rows (of_rows t.deviatoric_part)) (results 1 ((num t.spherical_part ∷ []) ∷ []) (end t)))

-- ---- `solve_quadratic`
abbrev pub quadratic_walk : Float → Float → Float → Walk Float
quadratic_walk a b c =
    inputs (a ∷ b ∷ c ∷ []) (ask 1 root (num b *ᵉ num b -ᵉ num four *ᵉ num a *ᵉ num c) (λ s.
    results 2 (((neg (num b) +ᵉ s) /ᵉ (num two *ᵉ num a) ∷ (neg (num b) -ᵉ s) /ᵉ (num two *ᵉ num a) ∷ []) ∷ []) (end (value s))))

-- ---- the verdict: after its inputs there is nothing to refuse
abbrev pub verdict_walk : MaximumStressFailure → List Float → Walk (List Float)
verdict_walk l s = inputs (l.max_principal_stress ∷ l.max_shear_stress ∷ s) (end s)

pub record Calls : Type 0 where
  -- ---- `physics`
  pub inv_exact : (e : Float) → Gives (given (finite e) (answered_of (inv_exact_of e))) (number_path (e ∷ []) (inv_exact_of e))
  pub lame_lambda_mu : (young poisson : Float)
      → GivesPair (given_pair (finite young && finite poisson) (pair_of (lambda_of young poisson) (shear_modulus_of young poisson)))
      (path (pair_walk (young ∷ poisson ∷ []) (num (lambda_of young poisson)) (num (shear_modulus_of young poisson))))
  pub shear_modulus : (young poisson : Float)
      → Gives (given (finite young && finite poisson) (answered_of (shear_modulus_of young poisson))) (number_path (young ∷ poisson ∷ []) (shear_modulus_of young poisson))
  pub bulk_modulus : (young poisson : Float)
      → Gives (given (finite young && finite poisson) (answered_of (bulk_modulus_of young poisson))) (number_path (young ∷ poisson ∷ []) (bulk_modulus_of young poisson))
  pub shear_modulus_from_lame : (lambda mu : Float)
      → Gives (given (finite lambda && finite mu) (answered_of (shear_from_lame_of lambda mu))) (number_path (lambda ∷ mu ∷ []) (shear_from_lame_of lambda mu))
  pub bulk_modulus_from_lame : (lambda mu : Float)
      → Gives (given (finite lambda && finite mu) (answered_of (bulk_from_lame_of lambda mu))) (number_path (lambda ∷ mu ∷ []) (bulk_from_lame_of lambda mu))
  pub spin_tensor : (m : List (List Float)) → Beside (given_matrix (mat_finite m) (answered (spin_tensor_of m))).refusal (matrix_path (joined m) (spin_tensor_of m))
  pub strain_rate : (m : List (List Float)) → Beside (given_matrix (mat_finite m) (answered (strain_rate_of m))).refusal (matrix_path (joined m) (strain_rate_of m))
  pub deviatoric_part_lem : (m : List (List Float)) → Beside (given_matrix (mat_finite m) (answered (deviatoric_of m))).refusal (matrix_path (joined m) (deviatoric_of m))
  pub spherical_part_lem : (m : List (List Float)) → Gives (given (mat_finite m) (answered_of (spherical_of m))) (number_path (joined m) (spherical_of m))
  -- ---- `DecomposedTensor`
  pub decompose : (m : List (List Float)) → Beside (given_tensor (mat_finite m) (answered_tensor (decompose_of m))).refusal (path (tensor_walk (joined m) (decompose_of m)))
  pub recompose : (t : DecomposedTensor) → Beside (given_matrix (tensor_finite t) (answered (recomposed_of t))).refusal (matrix_path (floats_in t) (recomposed_of t))
  pub add : (t u : DecomposedTensor)
      → Beside (given_tensor (tensor_finite t && tensor_finite u) (answered_tensor (sum_of t u))).refusal (path (tensor_walk (floats_in t ++ floats_in u) (sum_of t u)))
  pub times : (t : DecomposedTensor) (v : List Float)
      → Beside (given_vector (tensor_finite t && row_finite v) (answered_vector (times_of t v))).refusal (path (vector_walk (floats_in t ++ v) (nums (times_of t v))))
  -- ---- and the others
  pub phase_coeff_lem : (phase : Float) → Gives (neo_hookean.phase_coeff phase) (path (inputs (phase ∷ []) (returned 1 (neo_hookean.coefficient phase))))
  pub quadratic : (a b c : Float) → GivesPair (solve_quadratic_of a b c) (path (quadratic_walk a b c))
  pub alpha : (p : DruckerPragerPlasticity) (q : Float) → Gives (answer_as (walk_result (alpha_call p q))) (path (alpha_call p q))
  pub verdicts : (l : MaximumStressFailure) (s : List Float) → Beside (verdict_number (verdict_of l s)) (path (verdict_walk l s))
  pub verdict_failed_lem : (l : MaximumStressFailure) (s : List Float) → verdict_number (verdict_of l s) ≡ 0 → verdict_failed (verdict_of l s) ≡ exceeds_of l s
  pub neo_kirchhoff : (p : NeoHookeanElasticity) (phase h : Float) (f : List (List Float))
      → Beside (neo_stress.kirchhoff_stress p phase h f).refusal (path (neo_stress.kirchhoff_walk p phase h f))
  pub neo_fpk : (p : NeoHookeanElasticity) (f : List (List Float)) (h : Float) → Beside (neo_stress.fpk_stress p f h).refusal (path (neo_stress.fpk_walk p f h))
  pub neo_energy_density : (p : NeoHookeanElasticity) (phase h : Float) (f : List (List Float))
      → Gives (neo_energy.elastic_energy_density p phase h f) (path (neo_energy.energy_walk p phase h f))
  pub neo_pos_energy : (p : NeoHookeanElasticity) (phase h : Float) (f : List (List Float)) → Gives (neo_energy.pos_energy p phase h f) (path (neo_energy.pos_walk p phase h f))
  pub corotated_kirchhoff : (p : CorotatedLinearElasticity) (phase h : Float) (f u : List (List Float)) (s : List Float) (vt : List (List Float))
      → Beside (corotated_stress.kirchhoff_stress p phase h f u s vt).refusal (path (corotated_stress.stress_walk p phase h f u s vt))
  pub corotated_energy_density : (p : CorotatedLinearElasticity) (s : List Float) (h : Float) → Gives (corotated_energy.elastic_energy_density p s h) (path (corotated_energy.energy_walk p s h))
  pub corotated_pos_energy : (p : CorotatedLinearElasticity) (f : List (List Float)) (s : List Float) (h : Float)
      → Gives (corotated_energy.pos_energy p f s h) (path (corotated_energy.pos_walk p f s h))
  pub pressure : (law : MonaghanSphEos) (mass volume density : Float) → Gives (monaghan.pressure_of law mass volume density) (path (monaghan.pressure_walk law mass volume density))
  pub monaghan_kirchhoff : (law : MonaghanSphEos) (mass volume density det : Float) (gradient : List (List Float))
      → Beside (monaghan_stress.kirchhoff_stress_of law mass volume density det gradient).refusal (path (monaghan_stress.stress_walk law mass volume density det gradient))
  pub timestep : (law : MonaghanSphEos) (j mass volume density : Float) (velocity : List Float) (width : Float)
      → Gives (monaghan_timestep.timestep_bound_of law j mass volume density velocity width) (path (monaghan_timestep.timestep_walk law j mass volume density velocity width))
