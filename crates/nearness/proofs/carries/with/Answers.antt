-- `nearness::carries::with` meets its contract. Assumes nothing.
use Rattle.nearness.proofs.Steps.{taken, given}
use Rattle.nearness.proofs.carries.with.Goals as goal

pub returns-then-t : goal.returns-then-t
returns-then-t c = taken _ _ _ _ c.cell-w.ensures c.requires.1 c.if-t.true

pub returns-else-t : goal.returns-else-t
returns-else-t c = given _ _ _ _ c.cell-w.ensures c.if-t.false
