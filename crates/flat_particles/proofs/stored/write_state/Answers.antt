-- `flat_particles::stored::write_state` meets its contract: what its calls ensure, on each path.
use Rattle.flat_particles.proofs.stored.write_state.Goals as goal

pub returns : goal.returns
returns c = simp (c.write_scalars.ensures, c.write_shape.ensures)
