-- Old product over new product.
use Rattle.plasticity_snow.proofs.determinant.Goals as goal

pub returns : goal.returns
returns c =
    simp (c.product-2.ensures, c.product.ensures)
