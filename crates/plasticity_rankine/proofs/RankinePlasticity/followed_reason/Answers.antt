-- Arm by arm.
use Rattle.plasticity_rankine.proofs.RankinePlasticity.followed_reason.Goals as goal

pub returns-in-Untouched : goal.returns-in-Untouched
returns-in-Untouched c =
    let t0 = c.in-Untouched.is in
    simp (t0)

pub returns-in-One : goal.returns-in-One
returns-in-One c =
    let t0 = c.in-One.is in
    simp (c.moved_reason.ensures, t0)

pub returns-in-Two : goal.returns-in-Two
returns-in-Two c =
    let t0 = c.in-Two.is in
    simp (c.moved_reason-in-Two.ensures, t0)

pub returns-in-All : goal.returns-in-All
returns-in-All c =
    let t0 = c.in-All.is in
    simp (c.moved_reason-in-All.ensures, t0)

pub returns-in-Refused : goal.returns-in-Refused
returns-in-Refused c =
    let t0 = c.in-Refused.is in
    simp (t0)
