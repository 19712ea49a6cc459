-- The walks as the code tests them: a NaN in j is refused where its power is asked, and a matrix is tested whole.
use mathlib.Core.Bool.{Bool, true, false, cond, ◌&&◌}
use mathlib.Core.List.{List, [], ◌∷◌, ◌++◌}
use mathlib.Core.Path.{◌≡◌, refl, ap, sym, ◌∙◌}
use Prim.Native.Nat.{ℕ}
use lib.Ieee as Ieee
use lib.Ieee.{Float, nan, of_bits}
use Rattle.answers.specs.Refusals.{no_number}
use Rattle.answers.specs.Answer.{answered_of}
use Rattle.answers.specs.declared.Answer.TheVariants.{Value}
use Rattle.numbers.specs.Floats.{finite, is_number}
use Rattle.tensor.specs.Axes.{all_of}
use Rattle.tensor.specs.Matrix as tensor
use Rattle.tensor.specs.Matrix.{identity_times_of, det_of}
use Rattle.tensor.specs.Answer.{answered}
use Rattle.tensor.specs.Finite.{mat_finite}
use Rattle.decomposed.specs.Number.{mat_number}
use Rattle.decomposed.specs.Inverse.{inverse_transpose_of, mat_over_of, cofactors_of}
use Rattle.walk.specs.Expr.{Expr, num, ◌+ᵉ◌, ◌*ᵉ◌, value}
use Rattle.walk.specs.Walk.{Walk, Function, minus_third, minus_two_thirds, ln, less, at_most, answer_of, asked, ask, Ended, refused, walk_result, answer_as}
use Rattle.walk.specs.Power.{power}
use Rattle.walk.proofs.Inner.{Inner}
use Rattle.walk.specs.Matrix.{joined}
use Rattle.walk.proofs.Every.{all_append, all_joined}
use Rattle.walk.specs.Tensor.{one, worth, rows, plus, times, determinant}
use Rattle.walk.proofs.Tensor.{one_number}
use Rattle.decomposed.specs.Formulas.{cofactors_over}
use Rattle.decomposed.proofs.Formulas.{worth_cofactors, numbers_joined}
use Rattle.walk.specs.Answers.{matrix, returned_matrix, matrix_as}
use Rattle.walk.proofs.Answers.{returned_matrix_lem, split_number, split_matrix, asked_number, both, same, tested_later, asked_nan, asked_later}
use Rattle.elasticity_neo_hookean.specs.declared.NeoHookeanElasticity.{NeoHookeanElasticity}
use Rattle.elasticity_neo_hookean.specs.Law.{parameters_of, law_finite, floats, coefficient, bulk, cauchy_green}
use Rattle.elasticity_neo_hookean.specs.Stress.{shear, inverted, fpk_volumetric, fpk_from, fpk_steps, volumetric, tensile, compressed, split_walk, kirchhoff_from, kirchhoff_steps}
use Rattle.elasticity_neo_hookean.specs.Energy.{volumetric_energy, kappa, stretch, deviatoric_energy, Parts, parts_from, parts_walk, below, sum_walk, energy_from, energy_steps, pos_deviatoric, pos_sum, pos_from, pos_steps}

-- ---- inputs
pub inputs_law : (p : NeoHookeanElasticity) (phase h : Float) (f : List (List Float))
    → all_of finite (floats p (phase ∷ h ∷ []) f) ≡ law_finite p && finite phase && finite h && mat_finite f
unfolding floats
inputs_law p phase h f =
    all_append finite (parameters_of p ++ (phase ∷ h ∷ [])) (joined f) ∙ ap (λ b. law_finite p && finite phase && finite h && b) (all_joined finite f)

pub fpk_inputs_law : (p : NeoHookeanElasticity) (h : Float) (f : List (List Float))
    → all_of finite (floats p (h ∷ []) f) ≡ law_finite p && finite h && mat_finite f
unfolding floats
fpk_inputs_law p h f =
    all_append finite (parameters_of p ++ (h ∷ [])) (joined f) ∙ ap (λ b. law_finite p && finite h && b) (all_joined finite f)

-- ---- what is worth the same is weakened alike
value_below : (m : Bool) (c dev vol : Expr) → value (below m c dev vol) ≡ value (below m (num (value c)) (num (value dev)) (num (value vol)))
value_below true c dev vol = refl
value_below false c dev vol = refl

-- ---- kirchhoff_stress and the energies, of a determinant j
module _ (p : NeoHookeanElasticity) (phase h : Float) (f : List (List Float)) (j : Float) where
  abbrev k : Float
  k = value (bulk p h)

  abbrev b : List (List Float)
  b = worth (cauchy_green f)

  pub kirchhoff_law : walk_result (kirchhoff_from p phase h f (num j))
      ≡ cond (is_number k && mat_number b)
      (asked (answer_of minus_two_thirds j) (λ w. walk_result (split_walk (coefficient phase) (num j) (shear p h (num w) b) (volumetric (num j) (num k)))))
      (refused no_number)
  unfolding kirchhoff_from
  kirchhoff_law =
      let R : Float → Float → Ended (List (List Float)) = λ x w. walk_result (split_walk (coefficient phase) (num x) (shear p h (num w) b) (volumetric (num x) (num k))) in
      let K = is_number k in
      let A = asked (answer_of minus_two_thirds j) (R j) in
      ap (λ e. cond (is_number j) e (refused no_number)) (ap (λ c. cond K (cond c A (refused no_number)) (refused no_number)) (numbers_joined (cauchy_green f)) ∙ both K (mat_number b) A (refused no_number))
      ∙ asked_later j (K && mat_number b) minus_two_thirds R

  pub pos_law : walk_result (pos_from p phase h f (num j))
      ≡ cond (is_number k && mat_number b)
      (asked (answer_of minus_two_thirds j) (λ w. asked (answer_of ln j) (λ l.
      let vol = value (volumetric_energy (num k) (num j *ᵉ num j) (num l)) in
      cond (is_number vol) (walk_result (pos_sum phase (num j) (pos_deviatoric p h (num w) b) (num vol))) (refused no_number))))
      (refused no_number)
  unfolding pos_from
  pos_law =
      let R : Float → Float → Ended Float = λ x w. asked (answer_of ln x) (λ l.
      let vol = value (volumetric_energy (num k) (num x *ᵉ num x) (num l)) in
      cond (is_number vol) (walk_result (pos_sum phase (num x) (pos_deviatoric p h (num w) b) (num vol))) (refused no_number)) in
      let K = is_number k in
      let A = asked (answer_of minus_two_thirds j) (R j) in
      ap (λ e. cond (is_number j) e (refused no_number)) (ap (λ c. cond K (cond c A (refused no_number)) (refused no_number)) (numbers_joined (cauchy_green f)) ∙ both K (mat_number b) A (refused no_number))
      ∙ asked_later j (K && mat_number b) minus_two_thirds R

  -- the logarithm has the power's range: a NaN in j is the power's
  pub energy_law : (m : Bool) → walk_result (energy_from m p phase h f (num j))
      ≡ (let n = value (kappa p h) in
      cond (is_number n)
      (asked (answer_of minus_third j) (λ w.
      let s = worth (stretch (num w) f) in
      cond (mat_number s)
      (asked (answer_of ln j) (λ l. walk_result (sum_walk m (coefficient phase) (record { j = num j; deviatoric = deviatoric_energy p h s; volumetric = volumetric_energy (num n) (power (num j) 2) (num l) }))))
      (refused no_number)))
      (refused no_number))
  unfolding energy_from parts_from
  energy_law m =
      let R : Float → Float → Ended Float = λ x w. walk_result (matrix 4 (stretch (num w) f) (λ s.
      ask 5 ln (num x) (λ l. sum_walk m (coefficient phase) (record { j = num x; deviatoric = deviatoric_energy p h s; volumetric = volumetric_energy (num (value (kappa p h))) (power (num x) 2) l })))) in
      ap (λ e. cond (is_number (value (kappa p h))) e (refused no_number)) (tested_later j (λ x. asked (answer_of minus_third x) (R x)) (asked_nan minus_third (R nan)))
      ∙ simp numbers_joined

  -- ---- once the power and the logarithm are known
  number : (f : Function) (w : Float) → answer_of f j ≡ Value w → is_number tensor.one && is_number j ≡ true
  number g w t = rw (one_number, asked_number g j w t)

  number_first : (f : Function) (w : Float) → answer_of f j ≡ Value w → is_number j && is_number tensor.one ≡ true
  number_first g w t = rw (one_number, asked_number g j w t)

  pub kirchhoff_given : {w : Float} → is_number k && mat_number b ≡ true → answer_of minus_two_thirds j ≡ Value w
      → matrix_as (walk_result (kirchhoff_from p phase h f (num j)))
      ≡ (let c = coefficient phase in
      let dev = shear p h (num w) b in
      let vol = volumetric (num j) (num k) in
      cond (Ieee.le tensor.one j) (answered (worth (tensile c dev vol))) (answered (worth (compressed c dev vol))))
  kirchhoff_given {w} t u =
      let c = coefficient phase in
      let dev = shear p h (num w) b in
      let vol = volumetric (num j) (num k) in
      rw (kirchhoff_law, t, u) (split_matrix 5 6 (at_most one (num j)) (tensile c dev vol) (compressed c dev vol) (number minus_two_thirds w u))

  pub pos_given : {w l : Float} → is_number k && mat_number b ≡ true → answer_of minus_two_thirds j ≡ Value w → answer_of ln j ≡ Value l
      → is_number (value (volumetric_energy (num k) (num j *ᵉ num j) (num l))) ≡ true
      → answer_as (walk_result (pos_from p phase h f (num j)))
      ≡ (let dev = value (pos_deviatoric p h (num w) b) in
      let vol = value (volumetric_energy (num k) (num j *ᵉ num j) (num l)) in
      cond (Ieee.lt j tensor.one) (answered_of (tensor.mul dev (value (coefficient phase)))) (answered_of (tensor.mul (tensor.add dev vol) phase)))
  pos_given {w} {l} t u v x =
      let dev = pos_deviatoric p h (num w) b in
      let vol = num (value (volumetric_energy (num k) (num j *ᵉ num j) (num l))) in
      rw (pos_law, t, u, v, x) (split_number 7 8 (less (num j) one) (dev *ᵉ coefficient phase) ((dev +ᵉ vol) *ᵉ num phase) (number_first ln l v))

  pub energy_given : (m : Bool) {w l : Float} → is_number (value (kappa p h)) ≡ true → answer_of minus_third j ≡ Value w
      → mat_number (worth (stretch (num w) f)) ≡ true → answer_of ln j ≡ Value l
      → answer_as (walk_result (energy_from m p phase h f (num j)))
      ≡ (let c = value (coefficient phase) in
      let dev = value (deviatoric_energy p h (worth (stretch (num w) f))) in
      let vol = value (volumetric_energy (num (value (kappa p h))) (power (num j) 2) (num l)) in
      cond (Ieee.le tensor.one j) (answered_of (tensor.add (tensor.mul c (tensor.add vol dev)) tensor.zero)) (answered_of (value (below m (num c) (num dev) (num vol)))))
  energy_given m {w} {l} t u v x =
      let c = coefficient phase in
      let dev = deviatoric_energy p h (worth (stretch (num w) f)) in
      let vol = volumetric_energy (num (value (kappa p h))) (power (num j) 2) (num l) in
      rw (energy_law m, t, u, v, x)
      (split_number 6 7 (at_most one (num j)) (c *ᵉ (vol +ᵉ dev) +ᵉ num tensor.zero) (below m c dev vol) (number ln l x)
      ∙ ap (λ e. cond (Ieee.le tensor.one j) (answered_of (tensor.add (tensor.mul (value c) (tensor.add (value vol) (value dev))) tensor.zero)) (answered_of e)) (value_below m c dev vol))

-- ---- fpk_stress
identity_number : mat_number (identity_times_of tensor.one) ≡ true
unfolding mat_number is_number Ieee.mul of_bits
identity_number = refl

module _ {A : Type 0} (n : ℕ) (f : List (List Float)) (K : List (List Float) → Walk A) where
  picked : (x : Float) (c : Bool) → is_number x ≡ true
      → cond (is_number x) (cond c (walk_result (K (identity_times_of tensor.one))) (walk_result (matrix n (cofactors_over f (num x)) K))) (refused no_number)
      ≡ (let g = cond c (identity_times_of tensor.one) (mat_over_of (cofactors_of f) x) in cond (mat_number g) (walk_result (K g)) (refused no_number))
  picked x true h = simp (h, identity_number)
  picked x false h = simp (h, numbers_joined, worth_cofactors)

  pub inverted_law : (x : Float) → is_number x ≡ true
      → walk_result (inverted n f (num x) K) ≡ cond (mat_number (inverse_transpose_of f x)) (walk_result (K (inverse_transpose_of f x))) (refused no_number)
  unfolding inverse_transpose_of
  inverted_law x h = picked x (Ieee.eq x tensor.zero) h

module _ (p : NeoHookeanElasticity) (f : List (List Float)) (h j : Float) where
  abbrev after : Float → List (List Float) → Walk (List (List Float))
  after x g =
      matrix 4 (cauchy_green f) (λ b.
      ask 5 minus_two_thirds (num x) (λ w.
      returned_matrix 6 (plus (times (shear p h w b) (rows g)) (fpk_volumetric (num x) (num (value (bulk p h))) g))))

  abbrev powered : Float → List (List Float) → Ended (List (List Float))
  powered x g = asked (answer_of minus_two_thirds x) (λ w. walk_result (returned_matrix 6 (plus (times (shear p h (num w) (worth (cauchy_green f))) (rows g)) (fpk_volumetric (num x) (num (value (bulk p h))) g))))

  told : (x : Float) (c : Bool) → is_number x ≡ c
      → cond (is_number x) (cond (is_number (value (bulk p h))) (walk_result (inverted 3 f (num x) (after x))) (refused no_number)) (refused no_number)
      ≡ cond (is_number (value (bulk p h)) && (mat_number (inverse_transpose_of f x) && mat_number (worth (cauchy_green f)))) (powered x (inverse_transpose_of f x)) (refused no_number)
  told x true e =
      let K = is_number (value (bulk p h)) in
      let g = inverse_transpose_of f x in
      let G = mat_number g in
      let B = mat_number (worth (cauchy_green f)) in
      ap (λ c. cond c (cond K (walk_result (inverted 3 f (num x) (after x))) (refused no_number)) (refused no_number)) e
      ∙ ap (λ r. cond K r (refused no_number)) (inverted_law 3 f (after x) x e ∙ ap (λ c. cond G (cond c (powered x g) (refused no_number)) (refused no_number)) (numbers_joined (cauchy_green f)) ∙ both G B (powered x g) (refused no_number))
      ∙ both K (G && B) (powered x g) (refused no_number)
  told x false e = simp e (sym (same (is_number (value (bulk p h)) && (mat_number (inverse_transpose_of f x) && mat_number (worth (cauchy_green f)))) (refused no_number)))

  pub fpk_law : walk_result (fpk_from p f h (num j))
      ≡ (let g = inverse_transpose_of f j in
      cond (is_number (value (bulk p h)) && (mat_number g && mat_number (worth (cauchy_green f)))) (powered j g) (refused no_number))
  unfolding fpk_from
  fpk_law = told j (is_number j) refl

  pub fpk_given : {w : Float} → is_number (value (bulk p h)) && (mat_number (inverse_transpose_of f j) && mat_number (worth (cauchy_green f))) ≡ true
      → answer_of minus_two_thirds j ≡ Value w
      → matrix_as (walk_result (fpk_from p f h (num j)))
      ≡ (let g = inverse_transpose_of f j in
      answered (worth (plus (times (shear p h (num w) (worth (cauchy_green f))) (rows g)) (fpk_volumetric (num j) (num (value (bulk p h))) g))))
  fpk_given {w} t u =
      let g = inverse_transpose_of f j in
      rw (fpk_law, t, u) (returned_matrix_lem 6 (plus (times (shear p h (num w) (worth (cauchy_green f))) (rows g)) (fpk_volumetric (num j) (num (value (bulk p h))) g)))

-- ---- the determinant worked is taken by its number alone
pub kirchhoff_worked : (p : NeoHookeanElasticity) (phase h : Float) (f : List (List Float)) → walk_result (kirchhoff_steps p phase h f) ≡ walk_result (kirchhoff_from p phase h f (num (det_of f)))
unfolding kirchhoff_steps kirchhoff_from determinant
kirchhoff_worked p phase h f = refl

pub fpk_worked : (p : NeoHookeanElasticity) (f : List (List Float)) (h : Float) → walk_result (fpk_steps p f h) ≡ walk_result (fpk_from p f h (num (det_of f)))
unfolding fpk_steps fpk_from determinant
fpk_worked p f h = refl

pub energy_worked : (m : Bool) (p : NeoHookeanElasticity) (phase h : Float) (f : List (List Float)) → walk_result (energy_steps m p phase h f) ≡ walk_result (energy_from m p phase h f (num (det_of f)))
unfolding energy_steps energy_from parts_walk parts_from determinant
energy_worked m p phase h f = refl

pub pos_worked : (p : NeoHookeanElasticity) (phase h : Float) (f : List (List Float)) → walk_result (pos_steps p phase h f) ≡ walk_result (pos_from p phase h f (num (det_of f)))
unfolding pos_steps pos_from determinant
pos_worked p phase h f = refl

-- ---- no step tests inputs
pub kirchhoff_inner : (p : NeoHookeanElasticity) (phase h : Float) (f : List (List Float)) → Inner (kirchhoff_steps p phase h f)
unfolding kirchhoff_steps kirchhoff_from
kirchhoff_inner p phase h f = λ j k b w. (tt, tt)

pub fpk_inner : (p : NeoHookeanElasticity) (f : List (List Float)) (h : Float) → Inner (fpk_steps p f h)
unfolding fpk_steps fpk_from
fpk_inner p f h = λ j k. (λ b w. tt, λ g b w. tt)

pub energy_inner : (m : Bool) (p : NeoHookeanElasticity) (phase h : Float) (f : List (List Float)) → Inner (energy_steps m p phase h f)
unfolding energy_steps parts_walk parts_from
energy_inner m p phase h f = λ k j w s l. (tt, tt)

pub pos_inner : (p : NeoHookeanElasticity) (phase h : Float) (f : List (List Float)) → Inner (pos_steps p phase h f)
unfolding pos_steps pos_from
pos_inner p phase h f = λ j k b w l vol. (tt, tt)
