-- `parts::preamble_byte` meets its contract: each return is a case of `headed`.
use Rattle.parts.proofs.Cases.{waiting, headed_on}
use Rattle.parts.proofs.preamble_byte.Goals as goal

pub returns-then-header-eq-ENDS_EARLY : goal.returns-then-header-eq-ENDS_EARLY
returns-then-header-eq-ENDS_EARLY c = waiting _ _ _ c.preamble-header.ensures c.if-header-eq-ENDS_EARLY.true

pub returns : goal.returns
returns c = headed_on _ _ _ c.preamble-header.ensures c.if-header-eq-ENDS_EARLY.false
