-- The corotated law's stress (RULES, section 5: "Phase exactly 1.0 takes the unsplit path; the tensile part is dropped only at phase 0.0 with the flag").
use Rattle.std.specs.Prelude.{cond, ◌&&◌, List, [], ◌∷◌, ◌++◌, map, Float}
use Rattle.std.specs.Float.Ieee as Ieee
use Rattle.tensor.specs.Matrix as tensor
use Rattle.tensor.specs.declared.MatrixAnswer.{MatrixAnswer}
use Rattle.walk.specs.Expr.{Expr, num, ◌-ᵉ◌, ◌*ᵉ◌}
pub use Rattle.walk.specs.Constants.{zero, two}
use Rattle.walk.specs.Walk.{Walk, Test, less, flag, inputs, work, works, mosts, leasts, split, walk_result}
use Rattle.walk.specs.Matrix.{joined}
use Rattle.walk.specs.Update.{recomposed}
use Rattle.walk.specs.Tensor.{one, rows, turned, times, plus, scaled, identity_times, determinant}
use Rattle.walk.specs.Answers.{returned_matrix, matrix_as}
use Rattle.elasticity_corotated_linear.specs.Law.{floats}
use Rattle.elasticity_corotated_linear.specs.declared.CorotatedLinearElasticity.{CorotatedLinearElasticity}

-- p is the law, h the elastic hardening, s is sigma, d the determinant of F, worked or stored (ticket 3), j its number, e stands for sigma - 1 or a part of it, pos and neg for what is made of its parts.

-- ---- of the stress, the principal stresses and the energies
abbrev pub less_one : List Float → List Expr
less_one s = map (λ x. num x -ᵉ one) s

-- phase is an input, no number that a step works
abbrev pub unsplit : Float → Test
unsplit phase = flag (Ieee.eq phase tensor.one)

-- the tensile part is dropped only at phase 0.0 with the flag
abbrev pub phase_coeff : CorotatedLinearElasticity → Float → Expr
phase_coeff p phase = num (cond (p.split_stress_on_failure && Ieee.eq phase tensor.zero) tensor.zero tensor.one)

abbrev pub spherical_part : CorotatedLinearElasticity → Float → Expr → Expr
spherical_part p h j = num p.lambda *ᵉ num h *ᵉ (j -ᵉ one) *ᵉ j

-- ---- kirchhoff_stress
abbrev pub dev_stress : CorotatedLinearElasticity → Float → List (List Float) → List (List Float) → List Float → List (List Float) → List (List Expr)
dev_stress p h f u e vt = times (scaled (two *ᵉ num p.mu *ᵉ num h) (recomposed u e vt)) (turned (rows f))

abbrev pub spherical_stress : CorotatedLinearElasticity → Float → Expr → List (List Expr)
spherical_stress p h j = identity_times (spherical_part p h j)

-- c multiplies the tensile part: below j = 1 the spherical stress is compressive, else tensile
abbrev pub below : Expr → List (List Expr) → List (List Expr) → List (List Expr) → List (List Expr)
below c pos neg spherical = plus (scaled c pos) (plus neg spherical)

abbrev pub above : Expr → List (List Expr) → List (List Expr) → List (List Expr) → List (List Expr)
above c pos neg spherical = plus (scaled c (plus pos spherical)) neg

unfoldable pub stress_from : CorotatedLinearElasticity → Float → Float → List (List Float) → List (List Float) → List Float → List (List Float) → Expr → Walk (List (List Float))
stress_from p phase h f u s vt d =
    work 1 d (λ j.
    works 2 (less_one s) (λ e.
    split 3 (unsplit phase)
    (returned_matrix 7 (plus (dev_stress p h f u e vt) (spherical_stress p h j)))
    (mosts 4 e zero (λ pos.
    leasts 5 e zero (λ neg.
    split 6 (less j one)
    (returned_matrix 7 (below (phase_coeff p phase) (dev_stress p h f u pos vt) (dev_stress p h f u neg vt) (spherical_stress p h j)))
    (returned_matrix 7 (above (phase_coeff p phase) (dev_stress p h f u pos vt) (dev_stress p h f u neg vt) (spherical_stress p h j))))))))

unfoldable pub stress_steps : CorotatedLinearElasticity → Float → Float → List (List Float) → List (List Float) → List Float → List (List Float) → Walk (List (List Float))
stress_steps p phase h f u s vt = stress_from p phase h f u s vt (determinant f)

unfoldable pub stress_walk : CorotatedLinearElasticity → Float → Float → List (List Float) → List (List Float) → List Float → List (List Float) → Walk (List (List Float))
stress_walk p phase h f u s vt =
    inputs (floats p ((phase ∷ h ∷ []) ++ joined f ++ joined u ++ s ++ joined vt)) (stress_steps p phase h f u s vt)

abbrev pub kirchhoff_stress : CorotatedLinearElasticity → Float → Float → List (List Float) → List (List Float) → List Float → List (List Float) → MatrixAnswer
kirchhoff_stress p phase h f u s vt = matrix_as (walk_result (stress_walk p phase h f u s vt))
