-- `flat_particles::flat_record::read_mat` answers `mat_over 2 (now r.entry) at`.
use Rattle.flat_particles.proofs.flat_record.read_mat.Goals as goal

pub returns : goal.returns
returns c =
    simp (c.read_row-2.ensures, c.read_row.ensures)
