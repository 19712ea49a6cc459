-- Section 6 of the calls that give a number, two numbers, a matrix or a verdict. Assumes nothing.
use mathlib.Core.Path.{◌≡◌, refl, sym, ap, subst, ◌∙◌}
use mathlib.Core.Bool.{Bool, true, false, cond, ◌&&◌}
use mathlib.Core.List.{List, [], ◌∷◌, ◌++◌}
use mathlib.Core.Option.{Option, some, none}
use Prim.Native.Nat.{ℕ}
use lib.Ieee as Ieee
use lib.Ieee.{Float}
use Rattle.numbers.specs.Constants.{two}
use Rattle.numbers.specs.Floats.{finite}
use Rattle.answers.specs.Range.{on_path}
use Rattle.answers.specs.Answer.{answered_of, given, pair_of, given_pair}
use Rattle.answers.specs.declared.Answer.TheVariants as answers
use Rattle.answers.specs.declared.Pair.{Pair}
use Rattle.answers.specs.declared.Pair.TheVariants as pair
use Rattle.square_root.specs.Sqrt.{sqrt_ranged}
use Rattle.tensor.specs.Axes.{all_of}
use Rattle.tensor.specs.Matrix as tensor
use Rattle.tensor.specs.Matrix.{of_rows}
use Rattle.tensor.specs.Finite.{row_finite, mat_finite, rows_finite}
use Rattle.tensor.specs.Answer.{answered, answered_vector, given_matrix, given_vector, refused_matrix, refused_vector}
use Rattle.physics.specs.Physics.{inv_exact_of, shear_modulus_of, bulk_modulus_of, lambda_of, shear_from_lame_of, bulk_from_lame_of}
use Rattle.physics.specs.Quadratic.{discriminant_of, roots_of, solve_quadratic_of}
use Rattle.decomposed.specs.Decomposed.{spherical_of, deviatoric_of, decompose_of, recomposed_of, sum_of, times_of, tensor_finite, refused_tensor, answered_tensor, given_tensor}
use Rattle.decomposed.specs.declared.DecomposedAnswer.{DecomposedAnswer}
use Rattle.decomposed.specs.declared.DecomposedTensor.{DecomposedTensor}
use Rattle.decomposed.specs.Rates.{spin_tensor_of, strain_rate_of}
use Rattle.walk.specs.Expr.{Expr, num, nums, value, values}
use Rattle.walk.specs.Walk as walk
use Rattle.walk.specs.Walk.{Walk, root, inputs, results, end, ◌then◌, Ended, walk_result, answer_as}
use Rattle.walk.specs.Exact.{path}
use Rattle.walk.specs.Matrix.{joined, values_nums}
use Rattle.walk.proofs.Every.{all_joined, all_append}
use Rattle.walk.specs.Tensor.{worth, rows}
use Rattle.walk.proofs.Tensor.{worth_rows}
use Rattle.walk.specs.Answers.{returned, returned_matrix, refusal_in, matrix_as}
use Rattle.plasticity_drucker_prager.specs.declared.DruckerPragerPlasticity.{DruckerPragerPlasticity}
use Rattle.plasticity_drucker_prager.specs.Law as drucker_prager
use Rattle.plasticity_drucker_prager.specs.Alpha.{alpha_walk, alpha_call}
use Rattle.failure_maximum_stress.specs.declared.MaximumStressFailure.{MaximumStressFailure}
use Rattle.failure_maximum_stress.specs.declared.Verdict.{Verdict}
use Rattle.failure_maximum_stress.specs.declared.Verdict.TheVariants as verdict
use Rattle.failure_maximum_stress.specs.Failure.{limits_finite, exceeds_of, verdict_of}
use Rattle.elasticity_neo_hookean.specs.declared.NeoHookeanElasticity.{NeoHookeanElasticity}
use Rattle.elasticity_neo_hookean.specs.Law as neo_hookean
use Rattle.elasticity_neo_hookean.specs.Stress as neo_stress
use Rattle.elasticity_neo_hookean.specs.Energy as neo_energy
use Rattle.elasticity_neo_hookean.proofs.Laws as neo_laws
use Rattle.elasticity_corotated_linear.specs.declared.CorotatedLinearElasticity.{CorotatedLinearElasticity}
use Rattle.elasticity_corotated_linear.specs.Law as corotated
use Rattle.elasticity_corotated_linear.specs.Stress as corotated_stress
use Rattle.elasticity_corotated_linear.specs.Energy as corotated_energy
use Rattle.elasticity_corotated_linear.proofs.Laws as corotated_laws
use Rattle.eos_monaghan_sph.specs.declared.MonaghanSphEos.{MonaghanSphEos}
use Rattle.eos_monaghan_sph.specs.Pressure as monaghan
use Rattle.eos_monaghan_sph.specs.Stress as monaghan_stress
use Rattle.eos_monaghan_sph.specs.Timestep as monaghan_timestep
use Rattle.refusals.specs.Refusals.{Numbers, Gives}
use Rattle.refusals.specs.Enums.{verdict_number}
use Rattle.refusals.proofs.Enums.{coded, verdict_coded, verdict_failed_lem}
use Rattle.refusals.specs.Calls.{GivesPair, Beside, matrix_path, floats_in, pair_walk, vector_walk, tensor_walk, quadratic_walk, verdict_walk, Calls}
use Rattle.refusals.proofs.Inner.{Inner, inner_then, alpha_inner}
use Rattle.refusals.proofs.Numbers.{differ, nothing, told}
use Rattle.refusals.proofs.EnergyModes.{mode_gives}
use Rattle.refusals.proofs.Answers.{refusal_e, gives, walk_gives, beside, gives_beside, ended_beside, after, tested, entered, asked, number_result, matrix_result}

-- ---- the number that an answer is refused by
abbrev refusal_p : Pair → Option ℕ
refusal_p (pair.Values x y) = none
refusal_p (pair.Refused n) = some n

as_pair : (e : Pair) (n : ℕ) → refusal_p e ≡ some n → e ≡ pair.Refused n
as_pair (pair.Values x y) n q = absurd (nothing n q)
as_pair (pair.Refused m) n q = ap pair.Refused (differ q)

abbrev refusal_v : Verdict → Option ℕ
refusal_v verdict.No = none
refusal_v verdict.Yes = none
refusal_v (verdict.Refused n) = some n

as_verdict : (e : Verdict) (n : ℕ) → refusal_v e ≡ some n → e ≡ verdict.Refused n
as_verdict verdict.No n q = absurd (nothing n q)
as_verdict verdict.Yes n q = absurd (nothing n q)
as_verdict (verdict.Refused m) n q = ap verdict.Refused (differ q)

pair_result : (x y : Float) {A : Type 0} (p : Ended A) → refusal_in p ≡ none → refusal_p (pair_of x y) ≡ refusal_in (cond (finite x && finite y) p (walk.refused 3))
pair_result x y p h = tested refusal_p 3 (finite x && finite y) (pair.Values x y) (pair.Refused 3) p (sym h) refl

split_in : {A : Type 0} (a b : Bool) (p : Ended A) → refusal_in (cond (a && b) p (walk.refused 3)) ≡ refusal_in (cond a (cond b p (walk.refused 3)) (walk.refused 3))
split_in true b p = refl
split_in false b p = refl

-- ---- a result
module _ (l : List Float) (ok : Bool) (q : all_of finite l ≡ ok) where
  number_gives : (e : Expr) → Gives (given ok (answered_of (value e))) (path (inputs l (returned 1 e)))
  number_gives e = gives (given ok (answered_of (value e))) l (returned 1 e) tt (entered refusal_e l ok q (answered_of (value e)) (answers.Refused 1) (returned 1 e) (number_result 1 e) refl)

  matrix_gives : (m : List (List Expr)) → Beside (given_matrix ok (answered (worth m))).refusal (path (inputs l (returned_matrix 1 m)))
  matrix_gives m =
      gives_beside (given_matrix ok (answered (worth m))).refusal l (returned_matrix 1 m) tt
      (entered (λ a. beside a.refusal) l ok q (answered (worth m)) (refused_matrix 1) (returned_matrix 1 m) (matrix_result 1 m) refl)

  pair_gives : (a b : Expr) → GivesPair (given_pair ok (pair_of (value a) (value b))) (path (pair_walk l a b))
  pair_gives a b =
      let w : Walk Float = results 1 ((a ∷ b ∷ []) ∷ []) (end (value a)) in
      told refusal_p pair.Refused (λ n. refl) as_pair (given_pair ok (pair_of (value a) (value b))) l w tt
      (entered refusal_p l ok q (pair_of (value a) (value b)) (pair.Refused 1) w
      (pair_result (value a) (value b) (walk.given (value a)) refl) refl)

  vector_gives : (v : List Expr) → Beside (given_vector ok (answered_vector (values v))).refusal (path (vector_walk l v))
  unfolding answered_vector
  vector_gives v =
      let w : Walk (List Float) = results 1 (v ∷ []) (end (values v)) in
      gives_beside (given_vector ok (answered_vector (values v))).refusal l w tt
      (entered (λ a. beside a.refusal) l ok q (answered_vector (values v)) (refused_vector 1) w
      (tested (λ a. beside a.refusal) 3 (row_finite (values v)) _ (refused_vector 3) (walk.given (values v)) refl refl) refl)

  tensor_gives : (t : DecomposedTensor) → Beside (given_tensor ok (answered_tensor t)).refusal (path (tensor_walk l t))
  unfolding answered_tensor
  tensor_gives t =
      let T : DecomposedAnswer → Option ℕ = λ a. beside a.refusal in
      let a = rows_finite t.deviatoric_part in
      let b = finite t.spherical_part in
      gives_beside (given_tensor ok (answered_tensor t)).refusal l (after (tensor_walk l t)) tt
      (entered T l ok q (answered_tensor t) (refused_tensor 1) (after (tensor_walk l t))
      (tested T 3 (a && b) (record { refusal = 0; tensor = t }) (refused_tensor 3) (walk.given t) refl refl
      ∙ rw (worth_rows (of_rows t.deviatoric_part)) (split_in a b (walk.given t))) refl)

  -- of numbers
  numbers_give : (m : List (List Float)) → Beside (given_matrix ok (answered m)).refusal (matrix_path l m)
  numbers_give m = subst (λ (v : List (List Float)). Beside (given_matrix ok (answered v)).refusal (matrix_path l m)) (worth_rows m) (matrix_gives (rows m))

  row_gives : (v : List Float) → Beside (given_vector ok (answered_vector v)).refusal (path (vector_walk l (nums v)))
  row_gives v = subst (λ (w : List Float). Beside (given_vector ok (answered_vector w)).refusal (path (vector_walk l (nums v)))) (values_nums v) (vector_gives (nums v))

floats_in_lem : (t : DecomposedTensor) → all_of finite (floats_in t) ≡ tensor_finite t
floats_in_lem t =
    all_append finite (joined (of_rows t.deviatoric_part)) (t.spherical_part ∷ []) ∙ ap (λ b. b && finite t.spherical_part) (all_joined finite (of_rows t.deviatoric_part))

phase_gives : (phase : Float) → Gives (neo_hookean.phase_coeff phase) (path (inputs (phase ∷ []) (returned 1 (neo_hookean.coefficient phase))))
unfolding neo_hookean.phase_coeff
phase_gives phase = walk_gives (phase ∷ []) (returned 1 (neo_hookean.coefficient phase)) tt

-- ---- of a walk that ends in a matrix
walk_beside : (l : List Float) (w : Walk (List (List Float))) → Inner w → Beside (matrix_as (walk_result (inputs l w))).refusal (path (inputs l w))
walk_beside l w h = ended_beside (λ x. (matrix_as x).refusal) (λ m. refl) (λ n. refl) l w h

-- ---- `solve_quadratic`, alpha, the verdict
quadratic_gives : (a b c : Float) → GivesPair (solve_quadratic_of a b c) (path (quadratic_walk a b c))
unfolding solve_quadratic_of roots_of discriminant_of
quadratic_gives a b c =
    let d = discriminant_of a b c in
    let l = a ∷ b ∷ c ∷ [] in
    let w = after (quadratic_walk a b c) in
    told refusal_p pair.Refused (λ n. refl) as_pair (solve_quadratic_of a b c) l w (λ s. tt)
    (entered refusal_p l (finite a && finite b && finite c) refl (roots_of a b (on_path d (sqrt_ranged d))) (pair.Refused 1) w
    (asked (λ e. refusal_p (roots_of a b e)) (λ n. refl) (on_path d (sqrt_ranged d)) _ (λ s. pair_result (tensor.div (tensor.add (Ieee.neg b) s) (tensor.mul two a)) (tensor.div (tensor.sub (Ieee.neg b) s) (tensor.mul two a)) (walk.given s) refl)) refl)

alpha_gives : (p : DruckerPragerPlasticity) (q : Float) → Gives (answer_as (walk_result (alpha_call p q))) (path (alpha_call p q))
unfolding alpha_call
alpha_gives p q =
    let g : Float → Walk Float = λ a. results 19 ((num a ∷ []) ∷ []) (end a) in
    walk_gives (drucker_prager.parameters_of p ++ (q ∷ [])) (alpha_walk p q then g) (inner_then (alpha_walk p q) g (alpha_inner p q) (λ a. tt))

judged : (over : Bool) (s : List Float) → refusal_v (cond over verdict.Yes verdict.No) ≡ refusal_in (walk.given s)
judged true s = refl
judged false s = refl

verdict_gives : (l : MaximumStressFailure) (s : List Float) → Numbers (λ n. verdict_of l s ≡ verdict.Refused n) (path (verdict_walk l s))
unfolding verdict_of
verdict_gives l s =
    let limits = l.max_principal_stress ∷ l.max_shear_stress ∷ [] in
    told refusal_v verdict.Refused (λ n. refl) as_verdict (verdict_of l s) (limits ++ s) (end s) tt
    (entered refusal_v (limits ++ s) (limits_finite l && row_finite s) (all_append finite limits s) (cond (exceeds_of l s) verdict.Yes verdict.No) (verdict.Refused 1) (end s) (judged (exceeds_of l s) s) refl)

-- ---- neo-Hookean
module _ (p : NeoHookeanElasticity) (h : Float) (f : List (List Float)) where
  kirchhoff_gives : (phase : Float) → Beside (neo_stress.kirchhoff_stress p phase h f).refusal (path (neo_stress.kirchhoff_walk p phase h f))
  unfolding neo_stress.kirchhoff_walk
  kirchhoff_gives phase = walk_beside (neo_hookean.floats p (phase ∷ h ∷ []) f) (neo_stress.kirchhoff_steps p phase h f) (neo_laws.kirchhoff_inner p phase h f)

  fpk_gives : Beside (neo_stress.fpk_stress p f h).refusal (path (neo_stress.fpk_walk p f h))
  unfolding neo_stress.fpk_walk
  fpk_gives = walk_beside (neo_hookean.floats p (h ∷ []) f) (neo_stress.fpk_steps p f h) (neo_laws.fpk_inner p f h)

  energy_gives : (phase : Float) → Gives (neo_energy.elastic_energy_density p phase h f) (path (neo_energy.energy_walk p phase h f))
  energy_gives phase = mode_gives false p phase h f

  pos_gives : (phase : Float) → Gives (neo_energy.pos_energy p phase h f) (path (neo_energy.pos_walk p phase h f))
  unfolding neo_energy.pos_walk
  pos_gives phase = walk_gives (neo_hookean.floats p (phase ∷ h ∷ []) f) (neo_energy.pos_steps p phase h f) (neo_laws.pos_inner p phase h f)

-- ---- corotated
module _ (p : CorotatedLinearElasticity) where
  corotated_stress_gives : (phase h : Float) (f u : List (List Float)) (s : List Float) (vt : List (List Float))
      → Beside (corotated_stress.kirchhoff_stress p phase h f u s vt).refusal (path (corotated_stress.stress_walk p phase h f u s vt))
  unfolding corotated_stress.stress_walk
  corotated_stress_gives phase h f u s vt =
      walk_beside (corotated.floats p ((phase ∷ h ∷ []) ++ joined f ++ joined u ++ s ++ joined vt)) (corotated_stress.stress_steps p phase h f u s vt)
      (corotated_laws.stress_inner p phase h f u s vt)

  corotated_energy_gives : (s : List Float) (h : Float) → Gives (corotated_energy.elastic_energy_density p s h) (path (corotated_energy.energy_walk p s h))
  unfolding corotated_energy.energy_walk
  corotated_energy_gives s h = walk_gives (corotated.floats p (s ++ (h ∷ []))) (returned 1 (corotated_energy.density p s h)) tt

  corotated_pos_gives : (f : List (List Float)) (s : List Float) (h : Float) → Gives (corotated_energy.pos_energy p f s h) (path (corotated_energy.pos_walk p f s h))
  unfolding corotated_energy.pos_walk
  corotated_pos_gives f s h =
      walk_gives (corotated.floats p (joined f ++ s ++ (h ∷ []))) (corotated_energy.pos_steps p f s h) (corotated_laws.pos_inner p s h f)

-- ---- Monaghan
module _ (law : MonaghanSphEos) (mass volume density : Float) where
  abbrev pressed : Walk Float
  pressed = monaghan.pressure_steps law mass volume density

  pressed_inner : Inner pressed
  unfolding monaghan.pressure_steps
  pressed_inner = λ ratio p bounded. tt

  pressure_gives : Gives (monaghan.pressure_of law mass volume density) (path (monaghan.pressure_walk law mass volume density))
  unfolding monaghan.pressure_walk
  pressure_gives =
      let g : Float → Walk Float = λ p. returned 4 (num p) in
      walk_gives (monaghan.floats law mass volume density []) (pressed then g) (inner_then pressed g pressed_inner (λ p. tt))

  stress_inner : (det : Float) (gradient : List (List Float)) (p : Float) → Inner (monaghan_stress.stress_steps law det gradient p)
  unfolding monaghan_stress.stress_steps
  stress_inner det gradient p = (tt, tt)

  stress_gives : (det : Float) (gradient : List (List Float))
      → Beside (monaghan_stress.kirchhoff_stress_of law mass volume density det gradient).refusal (path (monaghan_stress.stress_walk law mass volume density det gradient))
  unfolding monaghan_stress.stress_walk
  stress_gives det gradient =
      let g : Float → Walk (List (List Float)) = monaghan_stress.stress_steps law det gradient in
      walk_beside (monaghan.floats law mass volume density (det ∷ joined gradient)) (pressed then g) (inner_then pressed g pressed_inner (stress_inner det gradient))

  timestep_inner : (j : Float) (velocity : List Float) (width p : Float) → Inner (monaghan_timestep.timestep_steps j mass volume velocity width p)
  unfolding monaghan_timestep.timestep_steps monaghan_timestep.single_steps monaghan_timestep.smaller_steps monaghan_timestep.cfl_steps
  timestep_inner j velocity width p = λ lead. (λ r single square c dt. tt, λ square c. tt)

  timestep_gives : (j : Float) (velocity : List Float) (width : Float)
      → Gives (monaghan_timestep.timestep_bound_of law j mass volume density velocity width) (path (monaghan_timestep.timestep_walk law j mass volume density velocity width))
  unfolding monaghan_timestep.timestep_walk
  timestep_gives j velocity width =
      let g : Float → Walk Float = monaghan_timestep.timestep_steps j mass volume velocity width in
      walk_gives (monaghan.floats law mass volume density ((j ∷ velocity) ++ (width ∷ []))) (pressed then g) (inner_then pressed g pressed_inner (timestep_inner j velocity width))

-- ---- all of them
pub calls : Calls
calls =
    record {
      inv_exact = λ e. number_gives (e ∷ []) (finite e) refl (num (inv_exact_of e));
      lame_lambda_mu = λ y p. pair_gives (y ∷ p ∷ []) (finite y && finite p) refl (num (lambda_of y p)) (num (shear_modulus_of y p));
      shear_modulus = λ y p. number_gives (y ∷ p ∷ []) (finite y && finite p) refl (num (shear_modulus_of y p));
      bulk_modulus = λ y p. number_gives (y ∷ p ∷ []) (finite y && finite p) refl (num (bulk_modulus_of y p));
      shear_modulus_from_lame = λ l m. number_gives (l ∷ m ∷ []) (finite l && finite m) refl (num (shear_from_lame_of l m));
      bulk_modulus_from_lame = λ l m. number_gives (l ∷ m ∷ []) (finite l && finite m) refl (num (bulk_from_lame_of l m));
      spin_tensor = λ m. numbers_give (joined m) (mat_finite m) (all_joined finite m) (spin_tensor_of m);
      strain_rate = λ m. numbers_give (joined m) (mat_finite m) (all_joined finite m) (strain_rate_of m);
      deviatoric_part_lem = λ m. numbers_give (joined m) (mat_finite m) (all_joined finite m) (deviatoric_of m);
      spherical_part_lem = λ m. number_gives (joined m) (mat_finite m) (all_joined finite m) (num (spherical_of m));
      decompose = λ m. tensor_gives (joined m) (mat_finite m) (all_joined finite m) (decompose_of m);
      recompose = λ t. numbers_give (floats_in t) (tensor_finite t) (floats_in_lem t) (recomposed_of t);
      add = λ t u. tensor_gives (floats_in t ++ floats_in u) (tensor_finite t && tensor_finite u) (all_append finite (floats_in t) (floats_in u) ∙ (λ i. floats_in_lem t i && floats_in_lem u i)) (sum_of t u);
      times = λ t v. row_gives (floats_in t ++ v) (tensor_finite t && row_finite v) (all_append finite (floats_in t) v ∙ ap (λ b. b && row_finite v) (floats_in_lem t)) (times_of t v);
      phase_coeff_lem = phase_gives;
      quadratic = quadratic_gives;
      alpha = alpha_gives;
      verdicts = λ l s. coded verdict_number verdict.Refused verdict_coded (verdict_of l s) (path (verdict_walk l s)) (verdict_gives l s);
      verdict_failed_lem = verdict_failed_lem;
      neo_kirchhoff = λ p phase h f. kirchhoff_gives p h f phase;
      neo_fpk = λ p f h. fpk_gives p h f;
      neo_energy_density = λ p phase h f. energy_gives p h f phase;
      neo_pos_energy = λ p phase h f. pos_gives p h f phase;
      corotated_kirchhoff = corotated_stress_gives;
      corotated_energy_density = corotated_energy_gives;
      corotated_pos_energy = corotated_pos_gives;
      pressure = pressure_gives;
      monaghan_kirchhoff = stress_gives;
      timestep = λ law j mass volume density velocity width. timestep_gives law mass volume density j velocity width;
    }
