-- `model::rows::make_ready` meets its contract: by the model. Made by tools/table from calls.toml: edit that, not this file.
use Rattle.model.specs.Ready.{ready_of}
use Rattle.model.proofs.rows.make_ready.Goals as goal

pub returns-in-Snow : goal.returns-in-Snow
unfolding ready_of
returns-in-Snow c = simp (c.ready_if.ensures, c.parameters_finite.ensures, c.in-Snow.is)

pub returns-in-Rankine : goal.returns-in-Rankine
unfolding ready_of
returns-in-Rankine c = simp (c.ready_if-in-Rankine.ensures, c.ready_rankine.ensures, c.law.ensures, c.parameters_finite-in-Rankine.ensures, c.in-Rankine.is)

pub returns-in-DruckerPrager : goal.returns-in-DruckerPrager
unfolding ready_of
returns-in-DruckerPrager c = simp (c.ready_if-in-DruckerPrager.ensures, c.parameters_finite-in-DruckerPrager.ensures, c.in-DruckerPrager.is)

pub returns-in-Nacc : goal.returns-in-Nacc
unfolding ready_of
returns-in-Nacc c = simp (c.ready_if-in-Nacc.ensures, c.ready_nacc.ensures, c.law-in-Nacc.ensures, c.parameters_finite-in-Nacc.ensures, c.in-Nacc.is)
