-- The volumetric part of the first Piola-Kirchhoff stress as its formula has it.
use Rattle.walk.proofs.Tensor.{worth_scaled, worth_rows}
use Rattle.elasticity_neo_hookean.proofs.stress.fpk_volumetric.Goals as goal

pub returns : goal.returns
returns c =
    simp (c.mat_scale.ensures, worth_scaled, worth_rows)
