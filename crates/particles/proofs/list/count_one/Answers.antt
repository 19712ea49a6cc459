-- `particles::list::count_one` meets its contract: by the outcome.
use Rattle.particles.proofs.list.count_one.Goals as goal

pub returns-in-Untouched : goal.returns-in-Untouched
returns-in-Untouched c = simp (c.count_failed-n.ensures, c.in-Untouched.is)

pub returns-in-Stored : goal.returns-in-Stored
returns-in-Stored c = simp (c.count_failed-n.ensures, c.in-Stored.is)

pub returns-in-Refused : goal.returns-in-Refused
returns-in-Refused c = simp (c.count_failed-n.ensures, c.in-Refused.is)
