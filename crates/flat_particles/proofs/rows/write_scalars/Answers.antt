-- `flat_particles::rows::write_scalars` meets its contract: what each arm writes. Made by tools/table from calls.toml: edit that, not this file.
use Rattle.flat_particles.proofs.rows.write_scalars.Goals as goal

pub returns-in-Snow : goal.returns-in-Snow
returns-in-Snow c = simp (c.bits_of-in-Snow.ensures, c.bits_of.ensures, c.in-Snow.is)

pub returns-in-Rankine : goal.returns-in-Rankine
returns-in-Rankine c = simp (c.bits_of-in-Rankine.ensures, c.in-Rankine.is)

pub returns-in-DruckerPrager : goal.returns-in-DruckerPrager
returns-in-DruckerPrager c = simp (c.bits_of-in-DruckerPrager-3.ensures, c.bits_of-in-DruckerPrager-2.ensures, c.bits_of-in-DruckerPrager.ensures, c.in-DruckerPrager.is)

pub returns-in-Nacc : goal.returns-in-Nacc
returns-in-Nacc c = simp (c.bits_of-in-Nacc.ensures, c.in-Nacc.is)
