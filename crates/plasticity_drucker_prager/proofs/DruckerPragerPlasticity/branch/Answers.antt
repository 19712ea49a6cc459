-- `plasticity_drucker_prager::DruckerPragerPlasticity::branch` answers `followed_of q.branch self q.sigma q.dq u vt s`.
use Rattle.plasticity_drucker_prager.proofs.DruckerPragerPlasticity.branch.Goals as goal

pub returns-in-Untouched : goal.returns-in-Untouched
returns-in-Untouched c =
    let t0 = simp c.outcome_of.ensures at c.in-Untouched.is in
    simp (c.untouched.ensures, t0)

pub returns-in-Stored : goal.returns-in-Stored
returns-in-Stored c =
    let t0 = simp c.outcome_of.ensures at c.in-Stored.is in
    simp (c.moved.ensures, t0)

pub returns-in-Refused : goal.returns-in-Refused
returns-in-Refused c =
    let t0 = simp c.outcome_of.ensures at c.in-Refused.is in
    simp (c.refuse.ensures, t0)
