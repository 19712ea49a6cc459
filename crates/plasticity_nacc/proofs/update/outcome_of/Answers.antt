-- Each branch has its outcome.
use Rattle.plasticity_nacc.proofs.update.outcome_of.Goals as goal

pub returns-in-Upper : goal.returns-in-Upper
returns-in-Upper c = simp c.in-Upper.is

pub returns-in-Lower : goal.returns-in-Lower
returns-in-Lower c = simp c.in-Lower.is

pub returns-in-Surface : goal.returns-in-Surface
returns-in-Surface c = simp c.in-Surface.is

pub returns-in-Refused : goal.returns-in-Refused
returns-in-Refused c = simp c.in-Refused.is
