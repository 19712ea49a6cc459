-- `exponential::hyperbolic::sinh_ranged` meets its contract. Assumes nothing.
use mathlib.Core.Path.{sym, ◌∙◌}
use Rattle.exponential.proofs.hyperbolic.sinh_ranged.Goals as goal

pub sinh_value-requires : goal.sinh_value-requires
sinh_value-requires c = sym c.in_range.ensures ∙ c.if-in_range.true

pub returns-then-in_range : goal.returns-then-in_range
returns-then-in_range c = rw (c.sinh_value.ensures, sym c.in_range.ensures ∙ c.if-in_range.true)

pub returns-else-in_range : goal.returns-else-in_range
returns-else-in_range c = rw (c.outside.ensures, sym c.in_range.ensures ∙ c.if-in_range.false)
