-- By the two numbers.
use mathlib.Core.Path.{sym, ◌∙◌}
use borrow.Author.Tests.{eq-eqb, ne_eqb}
use Rattle.record_why.proofs.reason_with.Goals as goal

pub returns-then-reason_number-n : goal.returns-then-reason_number-n
returns-then-reason_number-n c = let e = c.reason_number.ensures in simp (eq-eqb _ _ (sym e ∙ c.if-reason_number-n.true))

pub returns-else-reason_number-n : goal.returns-else-reason_number-n
returns-else-reason_number-n c = let e = c.reason_number.ensures in simp (ne_eqb _ _ (λ z. c.if-reason_number-n.false (e ∙ z)))
