-- The bound is a number.
use Rattle.plasticity_snow.proofs.at_least.Goals as goal

pub returns-then-low-e : goal.returns-then-low-e
returns-then-low-e c = simp (c.requires, c.if-low-e.true)

pub returns-else-low-e : goal.returns-else-low-e
returns-else-low-e c = simp (c.requires, c.if-low-e.false)
