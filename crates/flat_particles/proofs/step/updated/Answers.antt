-- `flat_particles::step::updated` answers `updated_at m (now r.entry)`.
use Rattle.flat_particles.specs.Law.{updated_at}
use Rattle.flat_particles.proofs.step.updated.Goals as goal

pub returns : goal.returns
unfolding updated_at
returns c =
    simp (c.update.ensures, c.read_vt.ensures, c.read_u.ensures, c.read_state-s.ensures)
