-- `factored_particles::step::ready_for` meets its contract: by the step.
use Rattle.factored_particles.proofs.step.ready_for.Goals as goal

pub returns-in-Factors : goal.returns-in-Factors
returns-in-Factors c = simp c.in-Factors.is

pub returns-in-First : goal.returns-in-First
returns-in-First c = simp (c.ready_for-t.ensures, c.in-First.is)
