-- `plasticity_nacc::reasons::branch_reason` answers `test_of q.branch`.
use Rattle.plasticity_nacc.proofs.reasons.branch_reason.Goals as goal

pub returns-in-Upper : goal.returns-in-Upper
returns-in-Upper c =
    let t0 = c.in-Upper.is in
    simp t0

pub returns-in-Lower : goal.returns-in-Lower
returns-in-Lower c =
    let t0 = c.in-Lower.is in
    simp t0

pub returns-in-Inside : goal.returns-in-Inside
returns-in-Inside c =
    let t0 = c.in-Inside.is in
    simp t0

pub returns-in-Surface : goal.returns-in-Surface
returns-in-Surface c =
    let t0 = c.in-Surface.is in
    simp t0

pub returns-in-Refused : goal.returns-in-Refused
returns-in-Refused c =
    let t0 = c.in-Refused.is in
    simp t0
