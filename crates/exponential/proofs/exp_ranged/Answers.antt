-- `exponential::exp_ranged` meets its contract. Assumes nothing.
use mathlib.Core.Path.{sym, ◌∙◌, subst}
use lib.Dec.{T}
use Rattle.exponential.proofs.Unpacking.{ranged_sized}
use Rattle.exponential.proofs.exp_ranged.Goals as goal

pub exp_value-requires : goal.exp_value-requires
exp_value-requires c = ranged_sized c.args.x (subst T (sym c.well_formed.0.1) tt) (sym c.in_range.ensures ∙ c.if-in_range.true)

pub returns-then-in_range : goal.returns-then-in_range
returns-then-in_range c = rw (c.exp_value.ensures, sym c.in_range.ensures ∙ c.if-in_range.true)

pub returns-else-in_range : goal.returns-else-in_range
returns-else-in_range c = rw (c.outside.ensures, sym c.in_range.ensures ∙ c.if-in_range.false)
