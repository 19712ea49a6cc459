-- `factored_particles::factored::write_factors` meets its contract: what its calls ensure, on each path.
use Rattle.factored_particles.proofs.factored.write_factors.Goals as goal

pub returns : goal.returns
returns c = simp (c.write_rows-2.ensures, c.write_row.ensures, c.write_rows.ensures)
