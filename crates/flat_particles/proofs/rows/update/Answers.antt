-- `flat_particles::rows::update` meets its contract: by the model. Made by tools/table from calls.toml: edit that, not this file.
use Rattle.flat_particles.specs.Law.{walk_of}
use Rattle.flat_particles.proofs.rows.update.Goals as goal

pub returns-in-Snow : goal.returns-in-Snow
unfolding walk_of
returns-in-Snow c = simp (c.update_particle.ensures, c.in-Snow.is)

pub returns-in-Rankine : goal.returns-in-Rankine
unfolding walk_of
returns-in-Rankine c = simp (c.update_particle-in-Rankine.ensures, c.in-Rankine.is)

pub returns-in-DruckerPrager : goal.returns-in-DruckerPrager
unfolding walk_of
returns-in-DruckerPrager c = simp (c.update_particle-in-DruckerPrager.ensures, c.in-DruckerPrager.is)

pub returns-in-Nacc : goal.returns-in-Nacc
unfolding walk_of
returns-in-Nacc c = simp (c.update_particle-in-Nacc.ensures, c.in-Nacc.is)
