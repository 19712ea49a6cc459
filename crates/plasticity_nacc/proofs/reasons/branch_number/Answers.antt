-- `plasticity_nacc::reasons::branch_number` meets its contract: test by test.
use borrow.Author.Tests.{eq-eqb, ne_eqb}
use Rattle.plasticity_nacc.proofs.reasons.branch_number.Goals as goal

pub returns-then-test-eq-UPPER : goal.returns-then-test-eq-UPPER
returns-then-test-eq-UPPER c = simp (eq-eqb _ _ c.if-test-eq-UPPER.true)

pub returns-then-test-eq-LOWER : goal.returns-then-test-eq-LOWER
returns-then-test-eq-LOWER c = simp (ne_eqb _ _ c.if-test-eq-UPPER.false, eq-eqb _ _ c.if-test-eq-LOWER.true)

pub returns-then-held : goal.returns-then-held
returns-then-held c = simp (ne_eqb _ _ c.if-test-eq-UPPER.false, ne_eqb _ _ c.if-test-eq-LOWER.false, c.if-held.true)

pub returns-else-held : goal.returns-else-held
returns-else-held c = simp (ne_eqb _ _ c.if-test-eq-UPPER.false, ne_eqb _ _ c.if-test-eq-LOWER.false, c.if-held.false)
