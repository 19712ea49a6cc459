-- The spherical part on the diagonal.
use Rattle.walk.proofs.Tensor.{worth_identity}
use Rattle.elasticity_corotated_linear.proofs.stress.spherical_stress.Goals as goal

pub returns : goal.returns
returns c =
    simp (c.identity_times.ensures, c.spherical_part.ensures, worth_identity)
