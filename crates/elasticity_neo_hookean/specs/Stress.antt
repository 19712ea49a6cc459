-- The neo-Hookean law's stresses (RULES, section 5: "`kirchhoff_stress` splits: from j = 1 up all is tensile, else only the deviatoric part; `fpk_stress` has no split and no phase").
use Rattle.std.specs.Prelude.{List, [], ◌∷◌, ℕ, Float}
use Rattle.tensor.specs.Matrix as tensor
use Rattle.tensor.specs.Matrix.{three, identity_times_of}
use Rattle.tensor.specs.Answer.{zero_row}
use Rattle.tensor.specs.declared.MatrixAnswer.{MatrixAnswer}
use Rattle.walk.specs.Expr.{Expr, num, ◌-ᵉ◌, ◌*ᵉ◌, ◌/ᵉ◌, value}
use Rattle.walk.specs.Walk.{Walk, minus_two_thirds, zeros, at_most, inputs, ask, work, split, walk_result}
use Rattle.walk.specs.Tensor.{one, rows, times, plus, scaled, identity_times, determinant}
use Rattle.decomposed.specs.Formulas.{deviatoric, cofactors_over}
use Rattle.walk.specs.Answers.{matrix, returned_matrix, matrix_as}
use Rattle.elasticity_neo_hookean.specs.Law.{two, floats, coefficient, bulk, cauchy_green}
use Rattle.elasticity_neo_hookean.specs.declared.NeoHookeanElasticity.{NeoHookeanElasticity}

-- p is the law, h the elastic hardening, d the determinant of F, worked or stored (ticket 3), j its number, k the bulk modulus times h, b is F F^T, w is j^(-2/3), c the phase's coefficient.

-- both stresses: mu h j^(-2/3) times the deviatoric part of F F^T
abbrev pub shear : NeoHookeanElasticity → Float → Expr → List (List Float) → List (List Expr)
shear p h w b = scaled (num p.mu *ᵉ num h *ᵉ w) (deviatoric (rows b))

-- ---- fpk_stress: g is the inverse of F^T, at j = 0 the identity
abbrev pub inverted : {A : Type 0} → ℕ → List (List Float) → Expr → (List (List Float) → Walk A) → Walk A
inverted n f j k = split n (zeros (value j ∷ [])) (k (identity_times_of tensor.one)) (matrix n (cofactors_over f j) k)

abbrev pub fpk_volumetric : Expr → Expr → List (List Float) → List (List Expr)
fpk_volumetric j k g = scaled (j *ᵉ k /ᵉ two *ᵉ (j -ᵉ one /ᵉ j)) (rows g)

unfoldable pub fpk_from : NeoHookeanElasticity → List (List Float) → Float → Expr → Walk (List (List Float))
fpk_from p f h d =
    work 1 d (λ j.
    work 2 (bulk p h) (λ k.
    inverted 3 f j (λ g.
    matrix 4 (cauchy_green f) (λ b.
    ask 5 minus_two_thirds j (λ w.
    returned_matrix 6 (plus (times (shear p h w b) (rows g)) (fpk_volumetric j k g)))))))

unfoldable pub fpk_steps : NeoHookeanElasticity → List (List Float) → Float → Walk (List (List Float))
fpk_steps p f h = fpk_from p f h (determinant f)

unfoldable pub fpk_walk : NeoHookeanElasticity → List (List Float) → Float → Walk (List (List Float))
fpk_walk p f h = inputs (floats p (h ∷ []) f) (fpk_steps p f h)

abbrev pub fpk_stress : NeoHookeanElasticity → List (List Float) → Float → MatrixAnswer
fpk_stress p f h = matrix_as (walk_result (fpk_walk p f h))

-- ---- kirchhoff_stress
abbrev pub volumetric : Expr → Expr → List (List Expr)
volumetric j k = identity_times (k /ᵉ two *ᵉ (j *ᵉ j -ᵉ one))

-- from j = 1 up all is tensile, and zeros are added
abbrev pub tensile : Expr → List (List Expr) → List (List Expr) → List (List Expr)
tensile c dev vol = plus (scaled c (plus dev vol)) (rows (three zero_row zero_row zero_row))

-- below it only the deviatoric part
abbrev pub compressed : Expr → List (List Expr) → List (List Expr) → List (List Expr)
compressed c dev vol = plus (scaled c dev) vol

abbrev pub split_walk : Expr → Expr → List (List Expr) → List (List Expr) → Walk (List (List Float))
split_walk c j dev vol = split 5 (at_most one j) (returned_matrix 6 (tensile c dev vol)) (returned_matrix 6 (compressed c dev vol))

unfoldable pub kirchhoff_from : NeoHookeanElasticity → Float → Float → List (List Float) → Expr → Walk (List (List Float))
kirchhoff_from p phase h f d =
    work 1 d (λ j.
    work 2 (bulk p h) (λ k.
    matrix 3 (cauchy_green f) (λ b.
    ask 4 minus_two_thirds j (λ w.
    split_walk (coefficient phase) j (shear p h w b) (volumetric j k)))))

unfoldable pub kirchhoff_steps : NeoHookeanElasticity → Float → Float → List (List Float) → Walk (List (List Float))
kirchhoff_steps p phase h f = kirchhoff_from p phase h f (determinant f)

unfoldable pub kirchhoff_walk : NeoHookeanElasticity → Float → Float → List (List Float) → Walk (List (List Float))
kirchhoff_walk p phase h f = inputs (floats p (phase ∷ h ∷ []) f) (kirchhoff_steps p phase h f)

abbrev pub kirchhoff_stress : NeoHookeanElasticity → Float → Float → List (List Float) → MatrixAnswer
kirchhoff_stress p phase h f = matrix_as (walk_result (kirchhoff_walk p phase h f))
