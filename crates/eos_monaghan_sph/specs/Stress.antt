-- Monaghan's Kirchhoff stress, from eos_monaghan_sph.rs, with the refusals of RULES, sections 5 and 6.
use Rattle.std.specs.Prelude.{List, ◌∷◌, Float}
use Rattle.std.specs.Float.Ieee as Ieee
use Rattle.numbers.specs.Constants as constants
use Rattle.tensor.specs.declared.MatrixAnswer.{MatrixAnswer}
use Rattle.walk.specs.Expr.{Expr, num, neg, ◌*ᵉ◌}
use Rattle.walk.specs.Walk.{Walk, flag, inputs, split, ◌then◌, walk_result}
use Rattle.walk.specs.Matrix.{joined}
use Rattle.walk.specs.Tensor.{rows, turned, plus, scaled, identity_times}
use Rattle.decomposed.specs.Formulas.{deviatoric}
use Rattle.walk.specs.Answers.{returned_matrix, matrix_as}
use Rattle.eos_monaghan_sph.specs.Pressure.{floats, pressure_steps}
use Rattle.eos_monaghan_sph.specs.declared.MonaghanSphEos.{MonaghanSphEos}

-- minus the pressure times the determinant, on the diagonal
abbrev pub pressure_part : Expr → Float → List (List Expr)
pressure_part p det = identity_times (neg p *ᵉ num det)

abbrev pub strain_rate : List (List Float) → List (List Expr)
strain_rate gradient = scaled (num constants.half) (plus (rows gradient) (turned (rows gradient)))

-- twice the viscosity times the determinant, times the deviatoric part of the strain rate
abbrev pub viscous_part : MonaghanSphEos → Float → List (List Float) → List (List Expr)
viscous_part law det gradient = scaled (num constants.two *ᵉ num law.viscosity *ᵉ num det) (deviatoric (strain_rate gradient))

-- without viscosity, an input, the gradient is not looked at
unfoldable pub stress_steps : MonaghanSphEos → Float → List (List Float) → Float → Walk (List (List Float))
stress_steps law det gradient p =
    split 4 (flag (Ieee.eq law.viscosity constants.zero))
    (returned_matrix 5 (pressure_part (num p) det))
    (returned_matrix 5 (plus (pressure_part (num p) det) (viscous_part law det gradient)))

unfoldable pub stress_walk : MonaghanSphEos → Float → Float → Float → Float → List (List Float) → Walk (List (List Float))
stress_walk law mass volume density det gradient =
    inputs (floats law mass volume density (det ∷ joined gradient)) (pressure_steps law mass volume density then stress_steps law det gradient)

abbrev pub kirchhoff_stress_of : MonaghanSphEos → Float → Float → Float → Float → List (List Float) → MatrixAnswer
kirchhoff_stress_of law mass volume density det gradient = matrix_as (walk_result (stress_walk law mass volume density det gradient))
