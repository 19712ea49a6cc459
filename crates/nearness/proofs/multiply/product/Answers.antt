-- `nearness::multiply::product` meets its contract. Assumes nothing.
use Rattle.nearness.proofs.Placed.{placed_product}
use Rattle.nearness.proofs.multiply.product.Goals as goal

pub returns : goal.returns
returns c =
    placed_product c.args.a c.args.b c.args.c c.requires.0 c.requires.1 c.requires.2 c.cells-w.result c.cells-w.ensures
