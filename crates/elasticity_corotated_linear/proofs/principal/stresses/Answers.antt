-- The principal stresses: each end is what the walk answers there.
use Rattle.walk.proofs.Tensor.{values_plus, values_scaled}
use Rattle.elasticity_corotated_linear.proofs.Laws.{principal_law}
use Rattle.elasticity_corotated_linear.proofs.principal.stresses.Goals as goal

pub returns-then-phase : goal.returns-then-phase
returns-then-phase c =
    let t0 = c.if-phase.true in
    simp (c.answered_vector.ensures, c.row_add.ensures, c.dev_stresses.ensures, c.spherical_stresses-sph.ensures, c.less_one-e.ensures, c.product-j.ensures, t0, values_plus, principal_law)

pub returns-else-phase : goal.returns-else-phase
returns-else-phase c =
    let t0 = c.if-phase.false in
    simp (c.answered_vector-else-phase.ensures, c.split_sum.ensures, c.phase_coeff.ensures, c.dev_stresses-neg.ensures, c.negative.ensures, c.dev_stresses-pos.ensures, c.positive.ensures, c.spherical_stresses-sph.ensures, c.less_one-e.ensures, c.product-j.ensures, t0, values_plus, values_scaled, principal_law)
