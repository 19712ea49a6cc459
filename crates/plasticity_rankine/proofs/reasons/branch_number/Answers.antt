-- `plasticity_rankine::reasons::branch_number` meets its contract: test by test.
use borrow.Author.Tests.{eq-eqb, ne_eqb}
use Rattle.plasticity_rankine.proofs.reasons.branch_number.Goals as goal

pub returns-then-test-eq-FIRST_TEST : goal.returns-then-test-eq-FIRST_TEST
returns-then-test-eq-FIRST_TEST c = simp (eq-eqb _ _ c.if-test-eq-FIRST_TEST.true)

pub returns-then-test-eq-SECOND_TEST : goal.returns-then-test-eq-SECOND_TEST
returns-then-test-eq-SECOND_TEST c = simp (ne_eqb _ _ c.if-test-eq-FIRST_TEST.false, eq-eqb _ _ c.if-test-eq-SECOND_TEST.true)

pub returns-then-held : goal.returns-then-held
returns-then-held c = simp (ne_eqb _ _ c.if-test-eq-FIRST_TEST.false, ne_eqb _ _ c.if-test-eq-SECOND_TEST.false, c.if-held.true)

pub returns-else-held : goal.returns-else-held
returns-else-held c = simp (ne_eqb _ _ c.if-test-eq-FIRST_TEST.false, ne_eqb _ _ c.if-test-eq-SECOND_TEST.false, c.if-held.false)
