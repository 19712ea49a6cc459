-- `report::column::higher` meets its contract: what its calls ensure, on each path.
use Rattle.std.proofs.Common.{le-ltb, lt-ltb}
use Rattle.report.proofs.column.higher.Goals as goal

pub returns-then-lift : goal.returns-then-lift
returns-then-lift c = let t = simp (c.lift-2.ensures, c.lift.ensures) at c.if-lift.true in simp (lt-ltb _ _ t)

pub returns-else-lift : goal.returns-else-lift
returns-else-lift c = let t = simp (c.lift-2.ensures, c.lift.ensures) at c.if-lift.false in simp (le-ltb _ _ t)
