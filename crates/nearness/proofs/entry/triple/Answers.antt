-- `nearness::entry::triple` meets its contract. Assumes nothing.
use Rattle.nearness.proofs.Judged.{tripled}
use Rattle.nearness.proofs.entry.triple.Goals as goal

pub returns : goal.returns
returns c = tripled _ _ _ _ _ _ _ c.units.ensures c.units-2.ensures c.units-3.ensures c.product.ensures
