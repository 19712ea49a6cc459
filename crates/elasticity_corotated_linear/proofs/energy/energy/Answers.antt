-- The energy density as the text groups it.
use Rattle.walk.proofs.Matrix.{value_product}
use Rattle.walk.proofs.Power.{value_power}
use Rattle.elasticity_corotated_linear.proofs.Laws.{squares_law}
use Rattle.elasticity_corotated_linear.proofs.energy.energy.Goals as goal

pub returns : goal.returns
returns c =
    simp (c.powi.ensures, c.squares.ensures, c.less_one.ensures, c.product-determinant.ensures, squares_law, value_power, value_product)
