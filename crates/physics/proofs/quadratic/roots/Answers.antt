-- `physics::quadratic::roots` answers `roots_of a b root`.
use Rattle.physics.specs.Quadratic.{roots_of}
use Rattle.physics.proofs.quadratic.roots.Goals as goal

pub returns-in-Value : goal.returns-in-Value
unfolding roots_of
returns-in-Value c = simp (c.answered_pair.ensures, c.in-Value.is)

pub returns-in-Refused : goal.returns-in-Refused
unfolding roots_of
returns-in-Refused c = simp c.in-Refused.is
