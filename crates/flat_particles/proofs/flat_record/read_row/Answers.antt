-- `flat_particles::flat_record::read_row` answers `row_over 2 (now r.entry) at`.
use Rattle.flat_particles.proofs.flat_record.read_row.Goals as goal

pub returns : goal.returns
returns c =
    simp (c.float-2.ensures, c.float.ensures)
