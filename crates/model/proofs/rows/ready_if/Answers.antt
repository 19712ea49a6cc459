-- `model::rows::ready_if` meets its contract: by the test.
use Rattle.model.proofs.rows.ready_if.Goals as goal

pub returns-then-finite : goal.returns-then-finite
returns-then-finite c = rw c.if-finite.true

pub returns-else-finite : goal.returns-else-finite
returns-else-finite c = rw c.if-finite.false
