-- `parts::end` meets its contract: the lists first.
use mathlib.Core.Path.{sym, ◌∙◌}
use Rattle.parts.proofs.end.Goals as goal

pub returns-then-are_lent : goal.returns-then-are_lent
returns-then-are_lent c = rw (sym c.are_lent.ensures ∙ c.if-are_lent.true) c.close.ensures

pub returns : goal.returns
returns c = rw (sym c.are_lent.ensures ∙ c.if-are_lent.false) c.tell.ensures
