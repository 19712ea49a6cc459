-- The inputs, then the steps.
use Rattle.elasticity_corotated_linear.proofs.Laws.{pos_inputs, pos_sigma, pos_worked}
use Rattle.elasticity_corotated_linear.specs.Energy.{pos_walk}
use Rattle.elasticity_corotated_linear.proofs.CorotatedLinearElasticity.pos_energy.Goals as goal

pub pos-requires : goal.pos-requires
pos-requires c =
    let t0 = simp (c.is_finite.ensures, c.row_finite.ensures, c.mat_finite.ensures, c.law_finite.ensures) at c.if-law_finite-mat_finite.true in
    let a = c.args in
    pos_sigma a.self a.f a.sigma a.hardening t0

pub returns-then-law_finite-mat_finite : goal.returns-then-law_finite-mat_finite
unfolding pos_walk
returns-then-law_finite-mat_finite c =
    let t0 = simp (c.is_finite.ensures, c.row_finite.ensures, c.mat_finite.ensures, c.law_finite.ensures) at c.if-law_finite-mat_finite.true in
    simp (c.pos.ensures, c.determinant.ensures, t0, pos_inputs, pos_worked)

pub returns-else-law_finite-mat_finite : goal.returns-else-law_finite-mat_finite
unfolding pos_walk
returns-else-law_finite-mat_finite c =
    let t0 = simp (c.is_finite.ensures, c.row_finite.ensures, c.mat_finite.ensures, c.law_finite.ensures) at c.if-law_finite-mat_finite.false in
    simp (c.is_finite.ensures, c.row_finite.ensures, c.mat_finite.ensures, c.law_finite.ensures, t0, pos_inputs)
