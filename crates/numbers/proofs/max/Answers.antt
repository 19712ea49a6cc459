-- `numbers::max` answers `max_of a b`.
use Rattle.numbers.proofs.Laws.{eq_self}
use Rattle.numbers.proofs.max.Goals as goal

pub returns-then-b-a : goal.returns-then-b-a
returns-then-b-a c = simp (← eq_self, c.if-b.true, c.if-b-a.true)

pub returns-else-b-a : goal.returns-else-b-a
returns-else-b-a c = simp (← eq_self, c.if-b.true, c.if-b-a.false)

pub returns-then-a : goal.returns-then-a
returns-then-a c = simp (← eq_self, c.if-b.false, c.if-a.true)

pub returns-else-a : goal.returns-else-a
returns-else-a c = simp (← eq_self, c.if-b.false, c.if-a.false)
