-- `model::rows::branch` meets its contract: by the law. Made by tools/table from calls.toml: edit that, not this file.
use Rattle.model.proofs.rows.branch.Goals as goal

pub returns-in-Snow : goal.returns-in-Snow
returns-in-Snow c = simp (c.branch_number.ensures, c.in-Snow.is)

pub returns-in-Rankine : goal.returns-in-Rankine
returns-in-Rankine c = simp (c.branch_number-in-Rankine.ensures, c.in-Rankine.is)

pub returns-in-DruckerPrager : goal.returns-in-DruckerPrager
returns-in-DruckerPrager c = simp (c.branch_number-in-DruckerPrager.ensures, c.in-DruckerPrager.is)

pub returns-in-Nacc : goal.returns-in-Nacc
returns-in-Nacc c = simp (c.branch_number-in-Nacc.ensures, c.in-Nacc.is)

pub returns-in-Unknown : goal.returns-in-Unknown
returns-in-Unknown c = simp c.in-Unknown.is
