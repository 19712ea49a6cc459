-- `model::rows::reason_of` meets its contract: by the model. Made by tools/table from calls.toml: edit that, not this file.
use Rattle.reason.specs.Reason.{reason_from, reason_of}
use Rattle.model.proofs.rows.reason_of.Goals as goal

pub returns-in-Snow : goal.returns-in-Snow
unfolding reason_of reason_from
returns-in-Snow c = simp (c.reason.ensures, c.in-Snow.is)

pub returns-in-Rankine : goal.returns-in-Rankine
unfolding reason_of reason_from
returns-in-Rankine c = simp (c.reason-in-Rankine.ensures, c.in-Rankine.is)

pub returns-in-DruckerPrager : goal.returns-in-DruckerPrager
unfolding reason_of reason_from
returns-in-DruckerPrager c = simp (c.reason-in-DruckerPrager.ensures, c.in-DruckerPrager.is)

pub returns-in-Nacc : goal.returns-in-Nacc
unfolding reason_of reason_from
returns-in-Nacc c = simp (c.reason-in-Nacc.ensures, c.in-Nacc.is)
