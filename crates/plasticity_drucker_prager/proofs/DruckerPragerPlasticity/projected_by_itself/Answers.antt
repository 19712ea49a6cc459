-- `plasticity_drucker_prager::DruckerPragerPlasticity::projected_by_itself` answers `walked_of (traced (project_call dim self singular_values log_vol_gain alpha))`.
use Rattle.plasticity_drucker_prager.proofs.Laws.{returned_then, project_inputs_lem}
use Rattle.plasticity_drucker_prager.specs.Projection.{project_call}
use Rattle.plasticity_drucker_prager.proofs.DruckerPragerPlasticity.projected_by_itself.Goals as goal

pub returns-then-parameters_finite-row_finite : goal.returns-then-parameters_finite-row_finite
unfolding project_call
returns-then-parameters_finite-row_finite c =
    let t0 = simp (c.is_finite-2.ensures, c.is_finite.ensures, c.row_finite.ensures, c.parameters_finite.ensures) at c.if-parameters_finite-row_finite.true in
    simp (c.returned_projection.ensures, c.projected.ensures, t0, returned_then, project_inputs_lem)

pub returns-else-parameters_finite-row_finite : goal.returns-else-parameters_finite-row_finite
unfolding project_call
returns-else-parameters_finite-row_finite c =
    let t0 = simp (c.is_finite-2.ensures, c.is_finite.ensures, c.row_finite.ensures, c.parameters_finite.ensures) at c.if-parameters_finite-row_finite.false in
    simp (c.refused_projection.ensures, t0, project_inputs_lem)
