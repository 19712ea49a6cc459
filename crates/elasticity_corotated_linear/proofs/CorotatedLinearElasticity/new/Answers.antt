-- `elasticity_corotated_linear::CorotatedLinearElasticity::new` answers `new_of young poisson`.
use Rattle.elasticity_corotated_linear.specs.Law.{new_of}
use Rattle.elasticity_corotated_linear.proofs.CorotatedLinearElasticity.new.Goals as goal

pub returns-then-is_finite : goal.returns-then-is_finite
unfolding new_of
returns-then-is_finite c =
    let t0 = simp (c.is_finite-2.ensures, c.is_finite.ensures) at c.if-is_finite.true in
    simp (c.from_lame.ensures, c.lame_lambda_mu.ensures, c.is_finite-2.ensures, c.is_finite.ensures, t0)

pub returns-else-is_finite : goal.returns-else-is_finite
unfolding new_of
returns-else-is_finite c =
    let t0 = simp (c.is_finite-2.ensures, c.is_finite.ensures) at c.if-is_finite.false in
    simp (c.is_finite-2.ensures, c.is_finite.ensures, t0)
