-- `particles::fill::fill` meets its contract: what its calls ensure, on each path.
use Rattle.particles.proofs.fill.fill.Goals as goal

pub returns : goal.returns
returns c = simp c.determinant.ensures
