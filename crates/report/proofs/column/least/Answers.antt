-- `report::column::least` meets its contract: what its calls ensure, on each path.
use Rattle.std.proofs.Common.{eq-eqb, ne_eqb}
use Rattle.report.proofs.column.least.Goals as goal

pub returns-then-b-eq0 : goal.returns-then-b-eq0
returns-then-b-eq0 c = simp (eq-eqb _ _ c.if-a-eq0.true, eq-eqb _ _ c.if-b-eq0.true)

pub returns-else-b-eq0 : goal.returns-else-b-eq0
returns-else-b-eq0 c = simp (eq-eqb _ _ c.if-a-eq0.true, ne_eqb _ _ c.if-b-eq0.false)

pub returns-then-b-eq0-2 : goal.returns-then-b-eq0-2
returns-then-b-eq0-2 c = simp (ne_eqb _ _ c.if-a-eq0.false, eq-eqb _ _ c.if-b-eq0-2.true)

pub returns-else-b-eq0-2 : goal.returns-else-b-eq0-2
returns-else-b-eq0-2 c = simp (c.lower.ensures, ne_eqb _ _ c.if-a-eq0.false, ne_eqb _ _ c.if-b-eq0-2.false)
