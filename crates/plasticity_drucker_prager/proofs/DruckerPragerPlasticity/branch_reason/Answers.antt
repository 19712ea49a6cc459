-- `plasticity_drucker_prager::DruckerPragerPlasticity::branch_reason` answers `branch_told q.branch self q.sigma q.dq u vt s`.
use Rattle.plasticity_drucker_prager.proofs.DruckerPragerPlasticity.branch_reason.Goals as goal

pub returns-in-Isotropic : goal.returns-in-Isotropic
returns-in-Isotropic c =
    let t0 = c.in-Isotropic.is in
    simp (c.moved_reason.ensures, t0)

pub returns-in-Expanding : goal.returns-in-Expanding
returns-in-Expanding c =
    let t0 = c.in-Expanding.is in
    simp (c.moved_reason-in-Expanding.ensures, t0)

pub returns-in-Inside : goal.returns-in-Inside
returns-in-Inside c =
    let t0 = c.in-Inside.is in
    simp t0

pub returns-in-Surface : goal.returns-in-Surface
returns-in-Surface c =
    let t0 = c.in-Surface.is in
    simp (c.moved_reason-in-Surface.ensures, t0)

pub returns-in-Refused : goal.returns-in-Refused
returns-in-Refused c =
    let t0 = c.in-Refused.is in
    simp t0
