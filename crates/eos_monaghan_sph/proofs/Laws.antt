-- The walks as the code works them.
use mathlib.Core.Bool.{Bool, true, cond, ◌&&◌}
use mathlib.Core.List.{List, [], ◌∷◌, ◌++◌}
use mathlib.Core.Path.{◌≡◌, refl, ap, sym, ◌∙◌}
use Prim.Native.Nat.{ℕ}
use lib.Ieee as Ieee
use lib.Ieee.{Float, nan, inf, fin}
use Rattle.answers.specs.Refusals.{no_number}
use Rattle.answers.specs.Answer.{finite_answer_of}
use Rattle.answers.specs.declared.Answer.{Answer}
use Rattle.answers.specs.declared.Answer.TheVariants.{Value, Refused}
use Rattle.numbers.specs.Constants.{two}
use Rattle.numbers.specs.Floats.{finite, is_number, max_of}
use Rattle.tensor.specs.Axes.{all_of}
use Rattle.tensor.specs.Matrix.{mul, mat_scale_of}
use Rattle.tensor.specs.Finite.{row_finite, mat_finite}
use Rattle.decomposed.specs.Decomposed.{deviatoric_of}
use Rattle.decomposed.specs.Rates.{strain_rate_of}
use Rattle.walk.specs.Expr.{num, neg, ◌*ᵉ◌, ◌/ᵉ◌, value}
use Rattle.walk.specs.Walk.{Walk, most, end, ◌then◌, refused, walk_result, answer_as, asked}
use Rattle.walk.proofs.Number.{neg_number}
use Rattle.numbers.proofs.Laws.{finite_number}
use Rattle.walk.proofs.Steps.{most_answers}
use Rattle.walk.proofs.Exact.{number_then}
use Rattle.walk.specs.Matrix.{joined}
use Rattle.walk.proofs.Every.{and_left, and_right, all_append, all_joined}
use Rattle.walk.specs.Tensor.{worth}
use Rattle.walk.proofs.Tensor.{worth_rows, worth_turned, worth_plus, worth_scaled}
use Rattle.decomposed.specs.Formulas.{deviatoric}
use Rattle.decomposed.proofs.Formulas.{worth_deviatoric}
use Rattle.walk.specs.Answers.{returned}
use Rattle.walk.proofs.Answers.{number_split}
use Rattle.eos_monaghan_sph.specs.declared.MonaghanSphEos.{MonaghanSphEos}
use Rattle.eos_monaghan_sph.specs.Pressure.{shared, floats, inputs_finite, density0, unbounded, pressure_steps}
use Rattle.eos_monaghan_sph.specs.Stress.{strain_rate, viscous_part}

-- ---- inputs
pub pressure_inputs : (law : MonaghanSphEos) (mass volume density : Float) → all_of finite (floats law mass volume density []) ≡ inputs_finite law mass volume density
unfolding floats
pressure_inputs law mass volume density = refl

pub stress_inputs : (law : MonaghanSphEos) (mass volume density det : Float) (gradient : List (List Float))
    → all_of finite (floats law mass volume density (det ∷ joined gradient)) ≡ inputs_finite law mass volume density && finite det && mat_finite gradient
unfolding floats
stress_inputs law mass volume density det gradient =
    all_append finite (shared law mass volume density ++ (det ∷ [])) (joined gradient) ∙ rw (all_joined finite gradient)

pub timestep_inputs : (law : MonaghanSphEos) (mass volume density j : Float) (velocity : List Float) (width : Float)
    → all_of finite (floats law mass volume density ((j ∷ velocity) ++ (width ∷ []))) ≡ inputs_finite law mass volume density && finite j && row_finite velocity && finite width
unfolding floats
timestep_inputs law mass volume density j velocity width =
    all_append finite (shared law mass volume density ++ (j ∷ velocity)) (width ∷ [])
    ∙ ap (λ b. b && finite width) (all_append finite (shared law mass volume density ++ (j ∷ [])) velocity)

-- the shared ones among them
pub stress_shared : (law : MonaghanSphEos) (mass volume density det : Float) (gradient : List (List Float))
    → inputs_finite law mass volume density && finite det && mat_finite gradient ≡ true → inputs_finite law mass volume density ≡ true
stress_shared law mass volume density det gradient q =
    let a = inputs_finite law mass volume density in
    and_left a (finite det) (and_left (a && finite det) (mat_finite gradient) q)

pub timestep_shared : (law : MonaghanSphEos) (mass volume density j : Float) (velocity : List Float) (width : Float)
    → inputs_finite law mass volume density && finite j && row_finite velocity && finite width ≡ true → inputs_finite law mass volume density ≡ true
timestep_shared law mass volume density j velocity width q =
    let a = inputs_finite law mass volume density in
    and_left a (finite j) (and_left (a && finite j) (row_finite velocity) (and_left (a && finite j && row_finite velocity) (finite width) q))

pub timestep_own : (law : MonaghanSphEos) (mass volume density j : Float) (velocity : List Float) (width : Float)
    → inputs_finite law mass volume density && finite j && row_finite velocity && finite width ≡ true → row_finite velocity && finite width ≡ true
timestep_own law mass volume density j velocity width q =
    let a = inputs_finite law mass volume density && finite j in
    let v = row_finite velocity in
    rw (and_right a v (and_left (a && v) (finite width) q), and_right (a && v) (finite width) q) refl

-- ---- the pressure: the largest negative one is finite
module _ (law : MonaghanSphEos) (mass volume density : Float) where
  least_finite : inputs_finite law mass volume density ≡ true → finite law.max_neg_pressure ≡ true
  least_finite q =
      let a = finite law.pressure0 && finite law.viscosity in
      let b = finite law.max_neg_pressure in
      let c = and_left (a && b && finite mass && finite volume) (finite density) q in
      and_right a b (and_left (a && b) (finite mass) (and_left (a && b && finite mass) (finite volume) c))

  abbrev bound : Float
  bound = Ieee.neg law.max_neg_pressure

  abbrev last : Float → Walk Float
  last p = most 3 (num p) (neg (num law.max_neg_pressure)) (λ b. end (value b))

  bounded : is_number bound ≡ true → (p : Float) → answer_as (cond (is_number p) (walk_result (last p)) (refused no_number)) ≡ cond (is_number p) (Value (max_of p bound)) (Refused no_number)
  unfolding is_number
  bounded q nan = refl
  bounded q (inf s) = ap answer_as (most_answers 3 (num (inf s)) (neg (num law.max_neg_pressure)) (λ b. end (value b)) refl q)
  bounded q (fin s m e) = ap answer_as (most_answers 3 (num (fin s m e)) (neg (num law.max_neg_pressure)) (λ b. end (value b)) refl q)

  pub pressure_law : inputs_finite law mass volume density ≡ true
      → answer_as (walk_result (pressure_steps law mass volume density))
      ≡ (let ratio = value (num density /ᵉ density0 mass volume) in
      let p = value (unbounded law (num ratio)) in
      cond (is_number ratio) (cond (is_number p) (Value (max_of p bound)) (Refused no_number)) (Refused no_number))
  unfolding pressure_steps
  pressure_law q =
      let ratio = value (num density /ᵉ density0 mass volume) in
      let p = value (unbounded law (num ratio)) in
      let n = neg_number law.max_neg_pressure ∙ finite_number law.max_neg_pressure (least_finite q) in
      number_split (is_number ratio) (cond (is_number p) (walk_result (last p)) (refused no_number)) (refused no_number)
      ∙ ap (λ x. cond (is_number ratio) x (Refused no_number)) (bounded n p)

-- a number to be returned
answer_then : (n : ℕ) (a : Answer) → answer_as (asked a (λ p. walk_result (returned n (num p)))) ≡ finite_answer_of a
answer_then n (Value p) = number_split (finite p) _ _
answer_then n (Refused m) = refl

pub returned_then : (n : ℕ) (w : Walk Float) → answer_as (walk_result (w then (λ p. returned n (num p)))) ≡ finite_answer_of (answer_as (walk_result w))
returned_then n w = ap answer_as (number_then w (λ p. returned n (num p))) ∙ answer_then n (answer_as (walk_result w))

-- ---- the stress
strain_law : (gradient : List (List Float)) → worth (strain_rate gradient) ≡ strain_rate_of gradient
unfolding strain_rate_of
strain_law gradient = simp (worth_scaled, worth_plus, worth_turned, worth_rows)

pub viscous_law : (law : MonaghanSphEos) (det : Float) (gradient : List (List Float))
    → worth (viscous_part law det gradient) ≡ mat_scale_of (mul (mul two law.viscosity) det) (deviatoric_of (strain_rate_of gradient))
viscous_law law det gradient =
    worth_scaled (num two *ᵉ num law.viscosity *ᵉ num det) (deviatoric (strain_rate gradient))
    ∙ ap (mat_scale_of (mul (mul two law.viscosity) det)) (worth_deviatoric (strain_rate gradient) ∙ ap deviatoric_of (strain_law gradient))
