-- `flat_particles::flat_record::write_shape` answers `put_shape (now r.entry) s`.
use Rattle.flat_particles.proofs.flat_record.write_shape.Goals as goal

pub returns : goal.returns
returns c =
    simp (c.write_row-3.ensures, c.write_row-2.ensures, c.write_row.ensures)
