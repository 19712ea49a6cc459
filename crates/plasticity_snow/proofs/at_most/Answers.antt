-- The bound is a number.
use Rattle.plasticity_snow.proofs.at_most.Goals as goal

pub returns-then-e-high : goal.returns-then-e-high
returns-then-e-high c = simp (c.requires, c.if-e-high.true)

pub returns-else-e-high : goal.returns-else-e-high
returns-else-e-high c = simp (c.requires, c.if-e-high.false)
