-- `flat_nacc::update::followed` answers `followed_of q.outcome q.sigma u vt s`.
use Rattle.flat_nacc.proofs.update.followed.Goals as goal

pub returns-in-Untouched : goal.returns-in-Untouched
returns-in-Untouched c =
    let t0 = c.in-Untouched.is in
    simp (c.untouched.ensures, t0)

pub returns-in-Stored : goal.returns-in-Stored
returns-in-Stored c =
    let t0 = c.in-Stored.is in
    simp (c.stored.ensures, c.scalars_of-scalars.ensures, c.is_finite-named.ensures, t0)

pub returns-in-Refused : goal.returns-in-Refused
returns-in-Refused c =
    let t0 = c.in-Refused.is in
    simp (c.refuse.ensures, t0)
