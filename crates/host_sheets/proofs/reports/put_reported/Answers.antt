-- `host_sheets::reports::put_reported` meets its contract.
use Rattle.host_sheets.proofs.reports.put_reported.Goals as goal

pub returns-in-Table : goal.returns-in-Table
returns-in-Table c =
    let t = c.in-Table.is in
    simp (c.copy.ensures, t)

pub returns-in-Refused : goal.returns-in-Refused
returns-in-Refused c = simp c.in-Refused.is
