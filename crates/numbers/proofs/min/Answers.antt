-- `numbers::min` answers `min_of a b`.
use Rattle.numbers.proofs.Laws.{eq_self}
use Rattle.numbers.proofs.min.Goals as goal

pub returns-then-a-b : goal.returns-then-a-b
returns-then-a-b c = simp (← eq_self, c.if-b.true, c.if-a-b.true)

pub returns-else-a-b : goal.returns-else-a-b
returns-else-a-b c = simp (← eq_self, c.if-b.true, c.if-a-b.false)

pub returns-then-a : goal.returns-then-a
returns-then-a c = simp (← eq_self, c.if-b.false, c.if-a.true)

pub returns-else-a : goal.returns-else-a
returns-else-a c = simp (← eq_self, c.if-b.false, c.if-a.false)
