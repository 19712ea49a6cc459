-- `plasticity_nacc::update::stored` answers `stored_by q.branch q.f q.sigma q.alpha s`.
use Rattle.plasticity_nacc.proofs.update.stored.Goals as goal

pub returns-in-Untouched : goal.returns-in-Untouched
returns-in-Untouched c =
    let t0 = simp c.outcome_of.ensures at c.in-Untouched.is in
    simp (t0)

pub returns-in-Stored : goal.returns-in-Stored
returns-in-Stored c =
    let t0 = simp c.outcome_of.ensures at c.in-Stored.is in
    simp (c.state_of.ensures, t0)

pub returns-in-Refused : goal.returns-in-Refused
returns-in-Refused c =
    let t0 = simp c.outcome_of.ensures at c.in-Refused.is in
    simp (c.refuse.ensures, t0)
