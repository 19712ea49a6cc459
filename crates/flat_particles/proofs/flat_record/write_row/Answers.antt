-- `flat_particles::flat_record::write_row` answers `put_row_over 2 (now r.entry) at v`.
use lib.ListN.{length-set}
use native.Mathlib.Omega.{arith}
use Rattle.flat_particles.proofs.flat_record.write_row.Goals as goal

pub bounds-r-at-2 : goal.bounds-r-at-2
bounds-r-at-2 c = simp length-set (omega arith)

pub returns : goal.returns
returns c =
    simp (c.bits_of-2.ensures, c.bits_of.ensures)
