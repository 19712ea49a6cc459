-- Arm by arm.
use Rattle.flat_rankine.proofs.update.followed.Goals as goal

pub returns-in-Untouched : goal.returns-in-Untouched
returns-in-Untouched c =
    simp (c.untouched.ensures, c.in-Untouched.is)

pub returns-in-Moved : goal.returns-in-Moved
returns-in-Moved c =
    simp (c.moved.ensures, c.in-Moved.is)

pub returns-in-Refused : goal.returns-in-Refused
returns-in-Refused c =
    simp (c.refuse.ensures, c.in-Refused.is)
