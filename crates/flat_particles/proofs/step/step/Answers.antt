-- `flat_particles::step::step` meets its contract: the law, and what it leaves.
use Rattle.flat_particles.specs.Law.{flat_law}
use Rattle.flat_particles.proofs.step.step.Goals as goal

pub returns : goal.returns
unfolding flat_law
returns c = let u = c.updated-d.ensures in (simp u, simp (c.keep.ensures, u))
