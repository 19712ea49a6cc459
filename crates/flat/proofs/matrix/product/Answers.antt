-- `flat::matrix::product` answers `product_of s`.
use Rattle.std.proofs.Common.{rules}
use lib.Ieee.{nan}
use Rattle.flat.proofs.Axes.{of_one}
use Rattle.tensor.specs.Matrix.{product_of}
use Rattle.flat.proofs.matrix.product.Goals as goal

pub returns : goal.returns
unfolding product_of
returns c = of_one product_of nan c.args.s (search rules)
