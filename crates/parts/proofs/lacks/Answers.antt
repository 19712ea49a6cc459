-- `parts::lacks` meets its contract: each return is a case of `missing`.
use borrow.Author.Tests.{eq-eqb, ne_eqb}
use Rattle.parts.proofs.lacks.Goals as goal

pub returns-then-header-eq0 : goal.returns-then-header-eq0
returns-then-header-eq0 c = rw (eq-eqb _ _ c.if-header-eq0.true)

pub returns-else-header-eq0 : goal.returns-else-header-eq0
returns-else-header-eq0 c = rw (ne_eqb _ _ c.if-header-eq0.false)
