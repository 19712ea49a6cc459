-- The deviatoric part of both stresses as its formula has it.
use Rattle.walk.proofs.Tensor.{worth_scaled, worth_rows}
use Rattle.decomposed.proofs.Formulas.{worth_deviatoric}
use Rattle.elasticity_neo_hookean.proofs.stress.shear_stress.Goals as goal

pub returns : goal.returns
returns c =
    simp (c.mat_scale.ensures, c.deviatoric_part-d.ensures, worth_scaled, worth_deviatoric, worth_rows)
