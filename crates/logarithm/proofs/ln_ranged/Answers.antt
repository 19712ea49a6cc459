-- `logarithm::ln_ranged` meets its contract. Assumes nothing.
use mathlib.Core.Path.{sym, ◌∙◌}
use Rattle.logarithm.proofs.ln_ranged.Goals as goal

pub ln_value-requires : goal.ln_value-requires
ln_value-requires c = sym c.in_range.ensures ∙ c.if-in_range.true

pub returns-then-in_range : goal.returns-then-in_range
returns-then-in_range c = rw (c.ln_value.ensures, sym c.in_range.ensures ∙ c.if-in_range.true)

pub returns-else-in_range : goal.returns-else-in_range
returns-else-in_range c = rw (c.outside.ensures, sym c.in_range.ensures ∙ c.if-in_range.false)
