-- `exponential::hyperbolic::size` meets its contract. Assumes nothing.
use mathlib.Core.Path.{sym, ◌∙◌}
use Rattle.exponential.proofs.hyperbolic.size.Goals as goal

pub returns-then-negative : goal.returns-then-negative
returns-then-negative c = rw (sym c.negative.ensures ∙ c.if-negative.true)

pub returns-else-negative : goal.returns-else-negative
returns-else-negative c = rw (sym c.negative.ensures ∙ c.if-negative.false)
