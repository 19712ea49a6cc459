-- The recomposed matrix scaled, then times F^T.
use Rattle.walk.proofs.Tensor.{worth_rows, worth_turned, worth_times, worth_scaled}
use Rattle.walk.specs.Matrix.{value_entry}
use Rattle.elasticity_corotated_linear.proofs.stress.dev_stress.Goals as goal

pub returns : goal.returns
returns c =
    simp (c.mat_mul.ensures, c.transpose.ensures, c.mat_scale-scaled.ensures, c.recompose.ensures, worth_times, worth_scaled, value_entry, worth_turned, worth_rows)
