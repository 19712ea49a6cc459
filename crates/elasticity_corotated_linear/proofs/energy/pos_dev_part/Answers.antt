-- The squared norm by `dot`.
use Rattle.walk.proofs.Matrix.{value_dot}
use Rattle.elasticity_corotated_linear.proofs.energy.pos_dev_part.Goals as goal

pub returns : goal.returns
returns c =
    simp (c.dot.ensures, value_dot)
