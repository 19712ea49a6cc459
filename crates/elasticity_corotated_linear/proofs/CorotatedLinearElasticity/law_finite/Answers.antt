-- `elasticity_corotated_linear::CorotatedLinearElasticity::law_finite` answers `law_finite self`.
use Rattle.elasticity_corotated_linear.proofs.CorotatedLinearElasticity.law_finite.Goals as goal

pub returns : goal.returns
returns c =
    simp (c.is_finite-3.ensures, c.is_finite-2.ensures, c.is_finite.ensures)
