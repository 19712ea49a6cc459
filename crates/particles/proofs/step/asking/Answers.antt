-- `particles::step::asking` meets its contract.
use Rattle.particles.proofs.step.asking.Goals as goal

pub returns : goal.returns
returns c = simp c.make_ready.ensures
