-- `sine::difference` meets its contract. Assumes nothing.
use mathlib.Core.Path.{◌∙◌}
use Rattle.sine.proofs.Laws.{plus_difference, minus_difference}
use Rattle.sine.proofs.difference.Goals as goal

pub returns-then-a-c : goal.returns-then-a-c
returns-then-a-c c = c.to_float.ensures.is ∙ plus_difference c.args.a c.args.c c.args.negative c.if-a-c.true

pub returns-else-a-c : goal.returns-else-a-c
returns-else-a-c c = c.to_float-else-a-c.ensures.is ∙ minus_difference c.args.a c.args.c c.args.negative c.if-a-c.false
