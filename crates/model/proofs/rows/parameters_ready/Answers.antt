-- `model::rows::parameters_ready` meets its contract: by the law, or by the refusal. Made by tools/table from calls.toml: edit that, not this file.
use Rattle.model.proofs.rows.parameters_ready.Goals as goal

pub returns-in-Snow : goal.returns-in-Snow
returns-in-Snow c = simp c.in-Snow.is

pub returns-in-Rankine : goal.returns-in-Rankine
returns-in-Rankine c = simp c.in-Rankine.is

pub returns-in-DruckerPrager : goal.returns-in-DruckerPrager
returns-in-DruckerPrager c = simp c.in-DruckerPrager.is

pub returns-in-Nacc : goal.returns-in-Nacc
returns-in-Nacc c = simp c.in-Nacc.is

pub returns-in-Refused : goal.returns-in-Refused
returns-in-Refused c = simp c.in-Refused.is
