-- The volumetric part of the Kirchhoff stress as its formula has it.
use Rattle.walk.proofs.Tensor.{worth_identity}
use Rattle.elasticity_neo_hookean.proofs.stress.volumetric_stress.Goals as goal

pub returns : goal.returns
returns c =
    simp (c.identity_times.ensures, worth_identity)
