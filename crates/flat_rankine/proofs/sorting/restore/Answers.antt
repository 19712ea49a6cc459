-- `flat_rankine::sorting::restore` answers `restored_of (indexes_of up) (pair low high)`.
use Rattle.flat_rankine.proofs.sorting.restore.Goals as goal

pub returns-then-up : goal.returns-then-up
returns-then-up c = simp c.if-up.true

pub returns-else-up : goal.returns-else-up
returns-else-up c = simp c.if-up.false
