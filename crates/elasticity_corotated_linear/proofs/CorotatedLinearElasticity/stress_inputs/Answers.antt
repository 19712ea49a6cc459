-- `elasticity_corotated_linear::CorotatedLinearElasticity::stress_inputs` answers `stressInputs self phase hardening f u sigma vt`.
use Rattle.elasticity_corotated_linear.proofs.CorotatedLinearElasticity.stress_inputs.Goals as goal

pub returns : goal.returns
returns c =
    simp (c.mat_finite-3.ensures, c.row_finite.ensures, c.mat_finite-2.ensures, c.mat_finite.ensures, c.is_finite-2.ensures, c.is_finite.ensures, c.law_finite.ensures)
