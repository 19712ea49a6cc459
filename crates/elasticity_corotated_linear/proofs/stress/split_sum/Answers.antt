-- The two parts of the stress, added on either side of j = 1.
use Rattle.walk.proofs.Tensor.{worth_plus, worth_scaled, worth_rows}
use Rattle.elasticity_corotated_linear.proofs.stress.split_sum.Goals as goal

pub returns-then-j : goal.returns-then-j
returns-then-j c =
    let t0 = c.if-j.true in
    simp (c.mat_add-then-j.ensures, c.mat_add.ensures, c.mat_scale.ensures, t0, worth_plus, worth_scaled, worth_rows)

pub returns-else-j : goal.returns-else-j
returns-else-j c =
    let t0 = c.if-j.false in
    simp (c.mat_add-else-j-2.ensures, c.mat_scale-else-j.ensures, c.mat_add-else-j.ensures, t0, worth_plus, worth_scaled, worth_rows)
