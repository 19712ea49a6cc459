-- The spherical part is tested, and added from j = 1 up.
use Rattle.elasticity_corotated_linear.proofs.energy.pos_sum.Goals as goal

pub returns-then-j : goal.returns-then-j
returns-then-j c =
    let t0 = c.if-j.true in
    let t1 = simp c.is_number.ensures at c.if-is_number.true in
    simp (c.answered.ensures, c.is_number.ensures, t0, t1)

pub returns-else-j : goal.returns-else-j
returns-else-j c =
    let t0 = c.if-j.false in
    let t1 = simp c.is_number.ensures at c.if-is_number.true in
    simp (c.answered-else-j.ensures, c.is_number.ensures, t0, t1)

pub returns-else-is_number : goal.returns-else-is_number
returns-else-is_number c =
    let t0 = simp c.is_number.ensures at c.if-is_number.false in
    simp (c.is_number.ensures, t0)
