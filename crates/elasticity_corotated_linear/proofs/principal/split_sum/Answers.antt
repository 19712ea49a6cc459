-- The two parts of the principal stresses, added on either side of J = 1.
use Rattle.elasticity_corotated_linear.proofs.principal.split_sum.Goals as goal

pub returns-then-j : goal.returns-then-j
returns-then-j c =
    let t0 = c.if-j.true in
    simp (c.row_add-then-j.ensures, c.row_add.ensures, c.row_scale.ensures, t0)

pub returns-else-j : goal.returns-else-j
returns-else-j c =
    let t0 = c.if-j.false in
    simp (c.row_add-else-j-2.ensures, c.row_scale-else-j.ensures, c.row_add-else-j.ensures, t0)
