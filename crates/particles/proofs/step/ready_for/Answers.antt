-- `particles::step::ready_for` meets its contract: by the step.
use Rattle.particles.proofs.step.ready_for.Goals as goal

pub returns-in-Plain : goal.returns-in-Plain
returns-in-Plain c = simp (c.asking.ensures, c.in-Plain.is)

pub returns-in-Judged : goal.returns-in-Judged
returns-in-Judged c = simp (c.asking-in-Judged.ensures, c.in-Judged.is)
