-- `answers::side` answers `side_of low high x`.
use Rattle.answers.specs.Range.{side_of}
use Rattle.answers.proofs.side.Goals as goal

pub returns-then-x-low : goal.returns-then-x-low
unfolding side_of
returns-then-x-low c = simp c.if-x-low.true

pub returns-else-x-low : goal.returns-else-x-low
unfolding side_of
returns-else-x-low c = simp c.if-x-low.false
