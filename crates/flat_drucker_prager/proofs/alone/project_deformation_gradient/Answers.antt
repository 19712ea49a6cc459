-- `flat_drucker_prager::alone::project_deformation_gradient` answers `project_of p singular_values log_vol_gain alpha`.
use Rattle.plasticity_drucker_prager.specs.Projection.{project_call}
use Rattle.plasticity_drucker_prager.proofs.Laws.{project_inputs_lem}
use Rattle.flat_drucker_prager.proofs.Handed.{returned_law}
use Rattle.flat_drucker_prager.proofs.alone.project_deformation_gradient.Goals as goal

pub returns-then-parameters_finite-row_finite : goal.returns-then-parameters_finite-row_finite
unfolding project_call
returns-then-parameters_finite-row_finite c =
    let t0 = simp (c.is_finite-2.ensures, c.is_finite.ensures, c.row_finite.ensures, c.parameters_finite.ensures) at c.if-parameters_finite-row_finite.true in
    simp (c.returned.ensures, c.projected.ensures, t0, returned_law, project_inputs_lem)

pub returns-else-parameters_finite-row_finite : goal.returns-else-parameters_finite-row_finite
unfolding project_call
returns-else-parameters_finite-row_finite c =
    let t0 = simp (c.is_finite-2.ensures, c.is_finite.ensures, c.row_finite.ensures, c.parameters_finite.ensures) at c.if-parameters_finite-row_finite.false in
    simp (c.refused_projection.ensures, t0, project_inputs_lem)
