-- Arm by arm.
use Rattle.plasticity_rankine.proofs.RankinePlasticity.followed.Goals as goal

pub returns-in-No : goal.returns-in-No
returns-in-No c =
    let t0 = simp c.moves_of.ensures at c.in-No.is in
    simp (c.untouched.ensures, t0)

pub returns-in-Yes : goal.returns-in-Yes
returns-in-Yes c =
    let t0 = simp c.moves_of.ensures at c.in-Yes.is in
    simp (c.moved.ensures, t0)

pub returns-in-Refused : goal.returns-in-Refused
returns-in-Refused c =
    let t0 = simp c.moves_of.ensures at c.in-Refused.is in
    simp (c.refuse.ensures, t0)
