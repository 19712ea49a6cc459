-- F times its transpose.
use Rattle.walk.proofs.Tensor.{worth_times, worth_turned, worth_rows}
use Rattle.elasticity_neo_hookean.proofs.stress.cauchy_green_strain.Goals as goal

pub returns : goal.returns
returns c =
    simp (c.mat_mul.ensures, c.transpose.ensures, worth_times, worth_turned, worth_rows)
