-- `flat_particles::answer::value` meets its contract: what its calls ensure, on each path.
use Rattle.flat_particles.proofs.answer.value.Goals as goal

pub returns-in-Untouched : goal.returns-in-Untouched
returns-in-Untouched c =
    let t0 = c.in-Untouched.is in
    simp (t0)

pub returns-in-Stored : goal.returns-in-Stored
returns-in-Stored c =
    let t0 = c.in-Stored.is in
    simp (c.bits_of.ensures, t0)

pub returns-in-Refused : goal.returns-in-Refused
returns-in-Refused c =
    let t0 = c.in-Refused.is in
    simp (t0)
