-- The stretched matrix times its transpose.
use Rattle.walk.proofs.Tensor.{worth_times, worth_turned, worth_scaled, worth_rows}
use Rattle.elasticity_neo_hookean.proofs.energy.stretch.Goals as goal

pub returns : goal.returns
returns c =
    simp (c.mat_mul.ensures, c.transpose.ensures, c.mat_scale-a.ensures, worth_times, worth_turned, worth_scaled, worth_rows)
