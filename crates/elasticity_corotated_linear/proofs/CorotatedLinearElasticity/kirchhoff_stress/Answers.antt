-- The inputs, then the steps.
use Rattle.elasticity_corotated_linear.proofs.Laws.{stress_inputs, stress_sigma, stress_worked}
use Rattle.elasticity_corotated_linear.specs.Stress.{stress_walk}
use Rattle.elasticity_corotated_linear.proofs.CorotatedLinearElasticity.kirchhoff_stress.Goals as goal

pub kirchhoff-requires : goal.kirchhoff-requires
kirchhoff-requires c =
    let t0 = simp c.stress_inputs.ensures at c.if-stress_inputs.true in
    let a = c.args in
    stress_sigma a.self a.phase a.hardening a.f a.u a.sigma a.vt t0

pub returns-then-stress_inputs : goal.returns-then-stress_inputs
unfolding stress_walk
returns-then-stress_inputs c =
    let t0 = simp c.stress_inputs.ensures at c.if-stress_inputs.true in
    simp (c.kirchhoff.ensures, c.determinant-j.ensures, t0, stress_inputs, stress_worked)

pub returns-else-stress_inputs : goal.returns-else-stress_inputs
unfolding stress_walk
returns-else-stress_inputs c =
    let t0 = simp c.stress_inputs.ensures at c.if-stress_inputs.false in
    simp (c.refused_matrix.ensures, c.stress_inputs.ensures, t0, stress_inputs)
