-- The walks as the code works them: sigma - 1 of numbers is numbers, and a NaN in j is in every spherical stress.
use mathlib.Core.Bool.{Bool, true, false, cond, ◌&&◌, true≢false}
use mathlib.Core.List.{List, [], ◌∷◌, ◌++◌, foldl, map}
use mathlib.Core.Path.{◌≡◌, refl, ap, sym, ◌∙◌}
use Prim.Native.Nat.{ℕ}
use lib.Ieee as Ieee
use lib.Ieee.{Float, nan, inf, fin, of_bits}
use Rattle.answers.specs.Refusals.{no_number}
use Rattle.answers.specs.Answer.{answered_of}
use Rattle.answers.specs.declared.Answer.{Answer}
use Rattle.answers.specs.declared.Answer.TheVariants.{Refused}
use Rattle.numbers.specs.Floats.{finite, is_number, max_of, min_of}
use Rattle.numbers.specs.Power.{powi_of}
use Rattle.tensor.specs.Axes.{all_of}
use Rattle.tensor.specs.Matrix as tensor
use Rattle.tensor.specs.Matrix.{add, sub, mul, det_of, sum_of, product_of}
use Rattle.tensor.specs.Answer.{answered, answered_vector, refused_matrix, refused_vector}
use Rattle.tensor.specs.Finite.{row_finite, mat_finite}
use Rattle.walk.specs.Expr.{Expr, num, ◌+ᵉ◌, ◌*ᵉ◌, value, values}
use Rattle.walk.proofs.Expr.{whole_tells, add_left, add_right, sub_left, mul_left, mul_right}
use Rattle.walk.specs.Walk.{Walk, less, work, works, mosts, leasts, split, Ended, refused, walk_result, answer_as}
use Rattle.walk.proofs.Number.{sub_number}
use Rattle.numbers.proofs.Laws.{finite_number}
use Rattle.walk.proofs.Steps.{mosts_answer, leasts_answer}
use Rattle.walk.specs.Matrix.{joined, value_total}
use Rattle.walk.proofs.Every.{every, all_every, all_append, all_joined, and_left, and_right}
use Rattle.walk.proofs.Matrix.{value_product}
use Rattle.walk.specs.Power.{power}
use Rattle.walk.proofs.Power.{value_power}
use Rattle.walk.proofs.Inner.{Inner, inner_mosts, inner_leasts}
use Rattle.walk.specs.Tensor.{one, worth, rows, plus, times, scaled, identity_times, row_plus, determinant}
use Rattle.walk.proofs.Tensor.{one_number, worth_rows, worth_plus, worth_scaled}
use Rattle.walk.specs.Answers.{returned, returned_matrix, returned_vector, matrix_as, vector_as}
use Rattle.walk.proofs.Answers.{returned_law, returned_matrix_lem, returned_vector_lem, split_number, split_matrix, split_vector, number_split, matrix_split, vector_split}
use Rattle.elasticity_corotated_linear.specs.declared.CorotatedLinearElasticity.{CorotatedLinearElasticity}
use Rattle.elasticity_corotated_linear.specs.Law.{parameters_of, floats, law_finite}
use Rattle.elasticity_corotated_linear.specs.Stress as stress
use Rattle.elasticity_corotated_linear.specs.Stress.{zero, less_one, unsplit, phase_coeff, spherical_part, dev_stress, spherical_stress, stress_from, stress_steps}
use Rattle.elasticity_corotated_linear.specs.Principal as principal
use Rattle.elasticity_corotated_linear.specs.Principal.{dev_stresses, spherical_stresses, principal_walk}
use Rattle.elasticity_corotated_linear.specs.Energy.{squares, pos_dev_part, spherical_energy, pos_from, pos_steps}

-- ---- inputs
pub stress_inputs : (p : CorotatedLinearElasticity) (phase h : Float) (f u : List (List Float)) (s : List Float) (vt : List (List Float))
    → all_of finite (floats p ((phase ∷ h ∷ []) ++ joined f ++ joined u ++ s ++ joined vt))
    ≡ law_finite p && finite phase && finite h && mat_finite f && mat_finite u && row_finite s && mat_finite vt
unfolding floats
stress_inputs p phase h f u s vt =
    let a = parameters_of p ++ (phase ∷ h ∷ []) in
    all_append finite (a ++ joined f ++ joined u ++ s) (joined vt)
    ∙ rw (all_append finite (a ++ joined f ++ joined u) s, all_append finite (a ++ joined f) (joined u), all_append finite a (joined f), all_joined finite f, all_joined finite u, all_joined finite vt)

pub energy_inputs : (p : CorotatedLinearElasticity) (s : List Float) (h : Float)
    → all_of finite (floats p (s ++ (h ∷ []))) ≡ law_finite p && row_finite s && finite h
unfolding floats
energy_inputs p s h = all_append finite (parameters_of p ++ s) (h ∷ []) ∙ ap (λ b. b && finite h) (all_append finite (parameters_of p) s)

pub pos_inputs : (p : CorotatedLinearElasticity) (f : List (List Float)) (s : List Float) (h : Float)
    → all_of finite (floats p (joined f ++ s ++ (h ∷ []))) ≡ law_finite p && mat_finite f && row_finite s && finite h
unfolding floats
pos_inputs p f s h =
    all_append finite (parameters_of p ++ joined f ++ s) (h ∷ [])
    ∙ rw (all_append finite (parameters_of p ++ joined f) s, all_append finite (parameters_of p) (joined f), all_joined finite f)

-- sigma among them
pub stress_sigma : (p : CorotatedLinearElasticity) (phase h : Float) (f u : List (List Float)) (s : List Float) (vt : List (List Float))
    → law_finite p && finite phase && finite h && mat_finite f && mat_finite u && row_finite s && mat_finite vt ≡ true → row_finite s ≡ true
stress_sigma p phase h f u s vt q =
    let others = law_finite p && finite phase && finite h && mat_finite f && mat_finite u in
    and_right others (row_finite s) (and_left (others && row_finite s) (mat_finite vt) q)

pub pos_sigma : (p : CorotatedLinearElasticity) (f : List (List Float)) (s : List Float) (h : Float)
    → law_finite p && mat_finite f && row_finite s && finite h ≡ true → row_finite s ≡ true
pos_sigma p f s h q =
    let others = law_finite p && mat_finite f in
    and_right others (row_finite s) (and_left (others && row_finite s) (finite h) q)

-- ---- sigma - 1
one_finite : finite tensor.one ≡ true
unfolding finite of_bits
one_finite = refl

numbers_less : (s : List Float) → every is_number s ≡ true → every is_number (values (less_one s)) ≡ true
numbers_less [] h = refl
numbers_less (x ∷ s) h =
    rw (sub_number x tensor.one (and_left (is_number x) (every is_number s) h) one_finite, numbers_less s (and_right (is_number x) (every is_number s) h))

finite_numbers : (s : List Float) → every finite s ≡ true → every is_number s ≡ true
finite_numbers [] h = refl
finite_numbers (x ∷ s) h =
    rw (finite_number x (and_left (finite x) (every finite s) h), finite_numbers s (and_right (finite x) (every finite s) h))

pub row_numbers : (s : List Float) → row_finite s ≡ true → every is_number s ≡ true
row_numbers s h = finite_numbers s (sym (all_every finite s) ∙ h)

abbrev pub positive_of : List Float → List Float
positive_of e = map (λ x. max_of x tensor.zero) e

abbrev pub negative_of : List Float → List Float
negative_of e = map (λ x. min_of x tensor.zero) e

zero_number : is_number tensor.zero ≡ true
unfolding is_number of_bits
zero_number = refl

-- of a walk's step on sigma - 1
less_law : {A : Type 0} (s : List Float) → every is_number s ≡ true → (n : ℕ) (k : List Float → Walk A) → walk_result (works n (less_one s) k) ≡ walk_result (k (values (less_one s)))
less_law s q n k = rw (all_every is_number (values (less_one s)), numbers_less s q)

most_law : {A : Type 0} (s : List Float) → every is_number s ≡ true → (n m : ℕ) (k : List Float → Walk A)
    → walk_result (works n (less_one s) (λ l. mosts m l zero k)) ≡ walk_result (k (positive_of (values (less_one s))))
most_law s q n m k =
    less_law s q n (λ l. mosts m l zero k) ∙ mosts_answer m (values (less_one s)) zero k (numbers_less s q) zero_number

-- whole at phase 1.0, else by its two parts
parts_law : {A : Type 0} (s : List Float) → every is_number s ≡ true → (a b c d : ℕ) (phase : Float) (w : List Float → Walk A) (v : List Float → List Float → Walk A)
    → walk_result (works a (less_one s) (λ l. split b (unsplit phase) (w l) (mosts c l zero (λ pos. leasts d l zero (λ neg. v pos neg)))))
    ≡ (let e = values (less_one s) in cond (Ieee.eq phase tensor.one) (walk_result (w e)) (walk_result (v (positive_of e) (negative_of e))))
parts_law s q a b c d phase w v =
    let e = values (less_one s) in
    less_law s q a (λ l. split b (unsplit phase) (w l) (mosts c l zero (λ pos. leasts d l zero (λ neg. v pos neg))))
    ∙ rw (mosts_answer c e zero (λ pos. leasts d e zero (λ neg. v pos neg)) (numbers_less s q) zero_number, leasts_answer d e zero (λ neg. v (positive_of e) neg) (numbers_less s q) zero_number)

-- ---- a NaN is handed on
nan_finite : finite nan ≡ false
unfolding finite
nan_finite = refl

nan_less : (x : Float) → Ieee.lt nan x ≡ false
unfolding Ieee.lt
nan_less x = refl

-- ---- kirchhoff_stress
-- of parts that the code has worked
pub below_rows : (c : Float) (a b d : List (List Expr)) → worth (stress.below (num c) (rows (worth a)) (rows (worth b)) (rows (worth d))) ≡ worth (stress.below (num c) a b d)
below_rows c a b d = simp (worth_plus, worth_scaled, worth_rows)

pub above_rows : (c : Float) (a b d : List (List Expr)) → worth (stress.above (num c) (rows (worth a)) (rows (worth b)) (rows (worth d))) ≡ worth (stress.above (num c) a b d)
above_rows c a b d = simp (worth_plus, worth_scaled, worth_rows)

module _ (p : CorotatedLinearElasticity) (phase h : Float) (f u : List (List Float)) (s : List Float) (vt : List (List Float)) where
  abbrev pub strains : List Float
  strains = values (less_one s)

  abbrev dev : List Float → List (List Expr)
  dev e = dev_stress p h f u e vt

  abbrev sph : Float → List (List Expr)
  sph j = spherical_stress p h (num j)

  abbrev pos : List (List Expr)
  pos = dev (positive_of strains)

  abbrev neg : List (List Expr)
  neg = dev (negative_of strains)

  abbrev whole : Float → List (List Expr)
  whole j = plus (dev strains) (sph j)

  -- what the code works
  abbrev pub stress_of : Float → List (List Float)
  stress_of j =
      cond (Ieee.eq phase tensor.one) (worth (whole j))
      (cond (Ieee.lt j tensor.one) (worth (stress.below (phase_coeff p phase) pos neg (sph j))) (worth (stress.above (phase_coeff p phase) pos neg (sph j))))

  abbrev split_walk : Float → List Float → List Float → Walk (List (List Float))
  split_walk j a b =
      split 6 (less (num j) one) (returned_matrix 7 (stress.below (phase_coeff p phase) (dev a) (dev b) (sph j))) (returned_matrix 7 (stress.above (phase_coeff p phase) (dev a) (dev b) (sph j)))

  abbrev parts_walk : Float → Walk (List (List Float))
  parts_walk j =
      works 2 (less_one s) (λ e. split 3 (unsplit phase) (returned_matrix 7 (plus (dev e) (sph j))) (mosts 4 e zero (λ a. leasts 5 e zero (λ b. split_walk j a b))))

  either_answered : (b : Bool) (x y : List (List Float)) → cond b (answered x) (answered y) ≡ answered (cond b x y)
  either_answered true x y = refl
  either_answered false x y = refl

  of_number : (q : every is_number s ≡ true) (j : Float) → is_number j ≡ true → matrix_as (walk_result (parts_walk j)) ≡ answered (stress_of j)
  of_number q j i =
      let a = stress.below (phase_coeff p phase) pos neg (sph j) in
      let b = stress.above (phase_coeff p phase) pos neg (sph j) in
      ap matrix_as (parts_law s q 2 3 4 5 phase (λ e. returned_matrix 7 (plus (dev e) (sph j))) (λ x y. split_walk j x y))
      ∙ matrix_split (Ieee.eq phase tensor.one) (walk_result (returned_matrix 7 (whole j))) (walk_result (split_walk j (positive_of strains) (negative_of strains)))
      ∙ rw (returned_matrix_lem 7 (whole j), split_matrix 6 7 (less (num j) one) a b (rw (i, one_number)))
      (ap (λ m. cond (Ieee.eq phase tensor.one) (answered (worth (whole j))) m) (either_answered (Ieee.lt j tensor.one) (worth a) (worth b)) ∙ either_answered (Ieee.eq phase tensor.one) (worth (whole j)) _)

  -- a matrix whose first entry is no finite number
  lost : (b : Bool) (x y : List (List Float)) → mat_finite x ≡ false → mat_finite y ≡ false → refused_matrix no_number ≡ answered (cond b x y)
  unfolding answered
  lost true x y a b = rw a
  lost false x y a b = rw b

  whole_lost : mat_finite (worth (whole nan)) ≡ false
  unfolding plus times identity_times tensor.row_add_of
  whole_lost = simp (mul_right, mul_left, add_right, nan_finite)

  above_lost : mat_finite (worth (stress.above (phase_coeff p phase) pos neg (sph nan))) ≡ false
  unfolding plus times scaled identity_times tensor.row_add_of
  above_lost = simp (mul_right, mul_left, add_right, add_left, nan_finite)

  told : every is_number s ≡ true → (j : Float) → matrix_as (cond (is_number j) (walk_result (parts_walk j)) (refused no_number)) ≡ answered (stress_of j)
  unfolding is_number
  told q nan = rw (nan_less tensor.one) (lost (Ieee.eq phase tensor.one) (worth (whole nan)) (worth (stress.above (phase_coeff p phase) pos neg (sph nan))) whole_lost above_lost)
  told q (inf t) = of_number q (inf t) refl
  told q (fin t m e) = of_number q (fin t m e) refl

  pub stress_law : row_finite s ≡ true → (j : Float) → matrix_as (walk_result (stress_from p phase h f u s vt (num j))) ≡ answered (stress_of j)
  unfolding stress_from
  stress_law q j = told (row_numbers s q) j

  -- the determinant worked is taken by its number alone
  pub stress_worked : walk_result (stress_steps p phase h f u s vt) ≡ walk_result (stress_from p phase h f u s vt (num (det_of f)))
  unfolding stress_steps stress_from determinant
  stress_worked = refl

  -- no step tests inputs
  pub stress_inner : Inner (stress_steps p phase h f u s vt)
  unfolding stress_steps stress_from
  stress_inner = λ j e. (tt, inner_mosts 4 e _ _ (λ pos. inner_leasts 5 e _ _ (λ neg. (tt, tt))))

-- ---- the principal stresses
-- a product that is a number has numbers alone
times_numbers : (x y : Float) → is_number (mul x y) ≡ true → is_number x && is_number y ≡ true
times_numbers x y h = and_left (is_number x && is_number y) (is_number (mul x y)) (sym (whole_tells (num x *ᵉ num y)) ∙ h)

folded : (x : Float) (l : List Float) → is_number (foldl mul x l) ≡ true → is_number x && every is_number l ≡ true
folded x [] h = rw h
folded x (y ∷ l) h =
    let q = folded (mul x y) l h in
    let w = times_numbers x y (and_left (is_number (mul x y)) (every is_number l) q) in
    rw (and_left (is_number x) (is_number y) w, and_right (is_number x) (is_number y) w, and_right (is_number (mul x y)) (every is_number l) q)

product_numbers : (s : List Float) → is_number (product_of s) ≡ true → every is_number s ≡ true
unfolding product_of
product_numbers [] h = refl
product_numbers (x ∷ s) h = folded x s h

module _ (p : CorotatedLinearElasticity) (phase h : Float) where
  abbrev devs : List Float → List Float → List Expr
  devs e s = dev_stresses p h e s

  abbrev sphs : Float → List Expr
  sphs j = spherical_stresses p h (num j)

  module _ (s : List Float) where
    abbrev wholes : Float → List Expr
    wholes j = row_plus (devs (values (less_one s)) s) (sphs j)

    abbrev belows : Float → List Expr
    belows j = principal.below (phase_coeff p phase) (devs (positive_of (values (less_one s))) s) (devs (negative_of (values (less_one s))) s) (sphs j)

    abbrev aboves : Float → List Expr
    aboves j = principal.above (phase_coeff p phase) (devs (positive_of (values (less_one s))) s) (devs (negative_of (values (less_one s))) s) (sphs j)

    -- what the code works
    abbrev pub stresses_of : Float → List Float
    stresses_of j = cond (Ieee.eq phase tensor.one) (values (wholes j)) (cond (Ieee.lt j tensor.one) (values (belows j)) (values (aboves j)))

    abbrev splits_walk : Float → List Float → List Float → Walk (List Float)
    splits_walk j a b =
        split 6 (less (num j) one) (returned_vector 7 (principal.below (phase_coeff p phase) (devs a s) (devs b s) (sphs j)))
        (returned_vector 7 (principal.above (phase_coeff p phase) (devs a s) (devs b s) (sphs j)))

    abbrev steps_walk : Float → Walk (List Float)
    steps_walk j =
        works 2 (less_one s) (λ e. split 3 (unsplit phase) (returned_vector 7 (row_plus (devs e s) (sphs j))) (mosts 4 e zero (λ a. leasts 5 e zero (λ b. splits_walk j a b))))

    either_vector : (b : Bool) (x y : List Float) → cond b (answered_vector x) (answered_vector y) ≡ answered_vector (cond b x y)
    either_vector true x y = refl
    either_vector false x y = refl

    of_numbers : every is_number s ≡ true → (j : Float) → is_number j ≡ true → vector_as (walk_result (steps_walk j)) ≡ answered_vector (stresses_of j)
    of_numbers q j i =
        let e = values (less_one s) in
        ap vector_as (parts_law s q 2 3 4 5 phase (λ l. returned_vector 7 (row_plus (devs l s) (sphs j))) (λ x y. splits_walk j x y))
        ∙ vector_split (Ieee.eq phase tensor.one) (walk_result (returned_vector 7 (wholes j))) (walk_result (splits_walk j (positive_of e) (negative_of e)))
        ∙ rw (returned_vector_lem 7 (wholes j), split_vector 6 7 (less (num j) one) (belows j) (aboves j) (rw (i, one_number)))
        (ap (λ m. cond (Ieee.eq phase tensor.one) (answered_vector (values (wholes j))) m) (either_vector (Ieee.lt j tensor.one) (values (belows j)) (values (aboves j))) ∙ either_vector (Ieee.eq phase tensor.one) (values (wholes j)) _)

    lost_vector : (b : Bool) (x y : List Float) → row_finite x ≡ false → row_finite y ≡ false → refused_vector no_number ≡ answered_vector (cond b x y)
    unfolding answered_vector
    lost_vector true x y a b = rw a
    lost_vector false x y a b = rw b

  wholes_lost : (x : Float) (s : List Float) → row_finite (values (wholes (x ∷ s) nan)) ≡ false
  wholes_lost x s = all_every finite (values (wholes (x ∷ s) nan)) ∙ simp (mul_right, add_right, nan_finite)

  aboves_lost : (x : Float) (s : List Float) → row_finite (values (aboves (x ∷ s) nan)) ≡ false
  aboves_lost x s = all_every finite (values (aboves (x ∷ s) nan)) ∙ simp (mul_right, add_right, add_left, nan_finite)

  lost_stresses : (s : List Float) → is_number (product_of s) ≡ false → refused_vector no_number ≡ answered_vector (stresses_of s nan)
  unfolding product_of
  lost_stresses [] q = absurd (true≢false (sym one_number ∙ q))
  lost_stresses (x ∷ s) q =
      rw (nan_less tensor.one) (lost_vector (x ∷ s) (Ieee.eq phase tensor.one) (values (wholes (x ∷ s) nan)) (values (aboves (x ∷ s) nan)) (wholes_lost x s) (aboves_lost x s))

  told_stresses : (s : List Float) (j : Float) → is_number (product_of s) ≡ is_number j → vector_as (cond (is_number j) (walk_result (steps_walk s j)) (refused no_number)) ≡ answered_vector (stresses_of s j)
  unfolding is_number
  told_stresses s nan q = lost_stresses s q
  told_stresses s (inf t) q = of_numbers s (product_numbers s q) (inf t) refl
  told_stresses s (fin t m e) q = of_numbers s (product_numbers s q) (fin t m e) refl

  pub principal_law : (s : List Float) → vector_as (walk_result (principal_walk p phase h s)) ≡ answered_vector (stresses_of s (product_of s))
  unfolding principal_walk
  principal_law s = rw (value_product s) (told_stresses s (product_of s) refl)

-- ---- pos_energy
module _ (p : CorotatedLinearElasticity) (s : List Float) (h : Float) where
  abbrev dev_part : Expr
  dev_part = pos_dev_part p h (positive_of (values (less_one s)))

  abbrev sph_part : Float → Float
  sph_part j = value (spherical_energy p h (num j))

  abbrev sum_walk : Float → List Float → Expr → Walk Float
  sum_walk j a spherical = split 5 (less (num j) one) (returned 6 (pos_dev_part p h a)) (returned 6 (pos_dev_part p h a +ᵉ spherical))

  abbrev energy_walk : Float → Walk Float
  energy_walk j = works 2 (less_one s) (λ e. mosts 3 e zero (λ a. work 4 (spherical_energy p h (num j)) (λ spherical. sum_walk j a spherical)))

  abbrev pub energy_of : Float → Answer
  energy_of j =
      cond (is_number (sph_part j)) (cond (Ieee.lt j tensor.one) (answered_of (value dev_part)) (answered_of (add (value dev_part) (sph_part j)))) (Refused no_number)

  of_finite : every is_number s ≡ true → (j : Float) → is_number j ≡ true → answer_as (walk_result (energy_walk j)) ≡ energy_of j
  of_finite q j i =
      ap answer_as (most_law s q 2 3 (λ a. work 4 (spherical_energy p h (num j)) (λ spherical. sum_walk j a spherical)))
      ∙ number_split (is_number (sph_part j)) (walk_result (sum_walk j (positive_of (values (less_one s))) (num (sph_part j)))) (refused no_number)
      ∙ rw (split_number 5 6 (less (num j) one) dev_part (dev_part +ᵉ num (sph_part j)) (rw (i, one_number)))

  sph_nan : sph_part nan ≡ nan
  sph_nan = simp (sub_left, mul_right)

  told_energy : every is_number s ≡ true → (j : Float) → answer_as (cond (is_number j) (walk_result (energy_walk j)) (refused no_number)) ≡ energy_of j
  unfolding is_number
  told_energy q nan = rw sph_nan
  told_energy q (inf t) = of_finite q (inf t) refl
  told_energy q (fin t m e) = of_finite q (fin t m e) refl

  pub pos_law : row_finite s ≡ true → (j : Float) → answer_as (walk_result (pos_from p s h (num j))) ≡ energy_of j
  unfolding pos_from
  pos_law q j = told_energy (row_numbers s q) j

  pub pos_worked : (f : List (List Float)) → walk_result (pos_steps p f s h) ≡ walk_result (pos_from p s h (num (det_of f)))
  unfolding pos_steps pos_from determinant
  pos_worked f = refl

  pub pos_inner : (f : List (List Float)) → Inner (pos_steps p f s h)
  unfolding pos_steps pos_from
  pos_inner f = λ j e. inner_mosts 3 e _ _ (λ pos spherical. (tt, tt))

-- ---- elastic_energy_density
powers : (es : List Expr) → values (map (λ x. power x 2) es) ≡ map (λ x. powi_of x 2) (values es)
powers [] = refl
powers (x ∷ es) = rw (value_power x 2, powers es)

pub squares_law : (es : List Expr) → value (squares es) ≡ sum_of (map (λ x. powi_of x 2) (values es))
squares_law es = value_total (map (λ x. power x 2) es) ∙ ap sum_of (powers es)
