-- `sheet::fields::parameter_at` meets its contract: each return is a case of `checked`.
use Rattle.sheet.specs.Sheet.{parameter_at}
use Rattle.sheet.proofs.fields.parameter_at.Goals as goal

pub returns-in-Refused : goal.returns-in-Refused
unfolding parameter_at
returns-in-Refused c = simp (← c.word_at-w.ensures, c.in-Refused.is)

pub returns-then-allows : goal.returns-then-allows
unfolding parameter_at
returns-then-allows c = simp (← c.word_at-w.ensures, c.in-Read.is, ← c.allows.ensures, c.if-allows.true)

pub returns-else-allows : goal.returns-else-allows
unfolding parameter_at
returns-else-allows c = simp (← c.word_at-w.ensures, c.in-Read.is, ← c.allows.ensures, c.if-allows.false)
