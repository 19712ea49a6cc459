-- The two parts of the Kirchhoff stress, added on either side of j = 1.
use Rattle.walk.proofs.Tensor.{worth_plus, worth_scaled, worth_rows}
use Rattle.elasticity_neo_hookean.proofs.stress.split.Goals as goal

pub returns-then-j : goal.returns-then-j
returns-then-j c =
    let t0 = c.if-j.true in
    simp (c.answered.ensures, c.mat_add-then-j.ensures, c.mat_scale.ensures, c.mat_add.ensures, t0, worth_plus, worth_scaled, worth_rows)

pub returns-else-j : goal.returns-else-j
returns-else-j c =
    let t0 = c.if-j.false in
    simp (c.answered-else-j.ensures, c.mat_add-else-j.ensures, c.mat_scale-else-j.ensures, t0, worth_plus, worth_scaled, worth_rows)
