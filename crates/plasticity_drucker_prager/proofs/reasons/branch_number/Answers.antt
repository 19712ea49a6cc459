-- `plasticity_drucker_prager::reasons::branch_number` meets its contract: test by test.
use borrow.Author.Tests.{eq-eqb, ne_eqb}
use Rattle.plasticity_drucker_prager.proofs.reasons.branch_number.Goals as goal

pub returns-then-test-eq-FLAG : goal.returns-then-test-eq-FLAG
returns-then-test-eq-FLAG c = simp (eq-eqb _ _ c.if-test-eq-FLAG.true)

pub returns-then-held : goal.returns-then-held
returns-then-held c = simp (ne_eqb _ _ c.if-test-eq-FLAG.false, eq-eqb _ _ c.if-test-eq-YIELD.true, c.if-held.true)

pub returns-else-held : goal.returns-else-held
returns-else-held c = simp (ne_eqb _ _ c.if-test-eq-FLAG.false, eq-eqb _ _ c.if-test-eq-YIELD.true, c.if-held.false)

pub returns-else-test-eq-YIELD : goal.returns-else-test-eq-YIELD
returns-else-test-eq-YIELD c = simp (ne_eqb _ _ c.if-test-eq-FLAG.false, ne_eqb _ _ c.if-test-eq-YIELD.false)
