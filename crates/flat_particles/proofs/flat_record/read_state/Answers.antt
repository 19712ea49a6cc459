-- `flat_particles::flat_record::read_state` answers `state_at (now r.entry)`.
use Rattle.flat_particles.proofs.flat_record.read_state.Goals as goal

pub returns : goal.returns
returns c =
    simp (c.float-6.ensures, c.float-5.ensures, c.float-4.ensures, c.float-3.ensures, c.float-2.ensures, c.float.ensures, c.read_row.ensures, c.to_rows.ensures, c.read_mat.ensures)
