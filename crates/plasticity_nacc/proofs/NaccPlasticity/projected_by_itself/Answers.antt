-- `plasticity_nacc::NaccPlasticity::projected_by_itself` answers `walked_of (traced (project_call self f u sigma vt alpha))`.
use Rattle.plasticity_nacc.specs.Projection.{project_call}
use Rattle.plasticity_nacc.proofs.Laws.{project_inputs_lem, project_alpha}
use Rattle.plasticity_nacc.proofs.NaccPlasticity.projected_by_itself.Goals as goal

pub project-requires : goal.project-requires
project-requires c =
    let a = c.args in
    project_alpha a.self a.f a.u a.sigma a.vt a.alpha (simp c.projection_inputs.ensures at c.if-projection_inputs.true)

pub returns-then-moduli_finite : goal.returns-then-moduli_finite
unfolding project_call
returns-then-moduli_finite c =
    let t0 = simp c.projection_inputs.ensures at c.if-projection_inputs.true in
    let t1 = simp c.moduli_finite.ensures at c.if-moduli_finite.true in
    simp (c.project.ensures, c.to_rows.ensures, t0, t1, project_inputs_lem)

pub returns-else-moduli_finite : goal.returns-else-moduli_finite
unfolding project_call
returns-else-moduli_finite c =
    let t0 = simp c.projection_inputs.ensures at c.if-projection_inputs.true in
    let t1 = simp (c.moduli_finite.ensures, c.projection_inputs.ensures) at c.if-moduli_finite.false in
    simp (c.refused_projection.ensures, c.moduli_finite.ensures, c.projection_inputs.ensures, t0, t1, project_inputs_lem)

pub returns-else-projection_inputs : goal.returns-else-projection_inputs
unfolding project_call
returns-else-projection_inputs c =
    let t0 = simp c.projection_inputs.ensures at c.if-projection_inputs.false in
    simp (c.refused_projection-else-projection_inputs.ensures, c.projection_inputs.ensures, t0, project_inputs_lem)
