-- `record::write_row` meets its contract: what its calls ensure, on each path.
use lib.ListN.{length-set}
use native.Mathlib.Omega.{arith}
use Rattle.record.proofs.write_row.Goals as goal

pub bounds-r-at-2 : goal.bounds-r-at-2
bounds-r-at-2 c = simp length-set (omega arith)

pub bounds-r-at-3 : goal.bounds-r-at-3
bounds-r-at-3 c = simp length-set (omega arith)

pub returns : goal.returns
returns c =
    simp (c.bits_of-3.ensures, c.bits_of-2.ensures, c.bits_of.ensures)
