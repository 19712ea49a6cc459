-- `nearness::carries::cell` meets its contract. Assumes nothing.
use Rattle.nearness.proofs.Steps.{cell_below, cell_in, cell_past}
use native.Mathlib.Omega.{arith}
use Rattle.nearness.proofs.carries.cell.Goals as goal

pub returns-then-i-place : goal.returns-then-i-place
returns-then-i-place c = cell_below _ _ c.if-i-place.true

pub returns-then-k-lt6 : goal.returns-then-k-lt6
returns-then-k-lt6 c = cell_in _ _ c.requires (omega arith)

pub returns-else-k-lt6 : goal.returns-else-k-lt6
returns-else-k-lt6 c = cell_past _ _ c.requires (omega arith) (omega arith)
