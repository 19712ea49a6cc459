-- `sheet_run::outcome` meets its contract: what its calls ensure, on each path.
use Rattle.sheet_run.proofs.outcome.Goals as goal

pub returns-in-Done : goal.returns-in-Done
returns-in-Done c =
    let t0 = c.in-Done.is in
    simp (t0)

pub returns-in-Refused : goal.returns-in-Refused
returns-in-Refused c =
    let t0 = c.in-Refused.is in
    simp (c.refused.ensures, t0)
