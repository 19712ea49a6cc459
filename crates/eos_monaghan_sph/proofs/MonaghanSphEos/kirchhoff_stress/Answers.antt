-- The inputs, then the pressure, then the stress.
use Rattle.walk.proofs.Exact.{number_then}
use Rattle.eos_monaghan_sph.specs.Stress.{stress_walk}
use Rattle.eos_monaghan_sph.proofs.Laws.{stress_inputs, stress_shared}
use Rattle.eos_monaghan_sph.proofs.MonaghanSphEos.kirchhoff_stress.Goals as goal

pub worked_pressure-p-requires : goal.worked_pressure-p-requires
worked_pressure-p-requires c =
    let t0 = simp (c.mat_finite.ensures, c.is_finite.ensures, c.inputs_finite.ensures) at c.if-inputs_finite-is_finite.true in
    let a = c.args in
    stress_shared a.self a.mass a.volume a.density a.det a.gradient t0

pub returns-then-inputs_finite-is_finite : goal.returns-then-inputs_finite-is_finite
unfolding stress_walk
returns-then-inputs_finite-is_finite c =
    let t0 = simp (c.mat_finite.ensures, c.is_finite.ensures, c.inputs_finite.ensures) at c.if-inputs_finite-is_finite.true in
    simp (c.stress_from.ensures, c.worked_pressure-p.ensures, t0, stress_inputs, number_then)

pub returns-else-inputs_finite-is_finite : goal.returns-else-inputs_finite-is_finite
unfolding stress_walk
returns-else-inputs_finite-is_finite c =
    let t0 = simp (c.mat_finite.ensures, c.is_finite.ensures, c.inputs_finite.ensures) at c.if-inputs_finite-is_finite.false in
    simp (c.refused_matrix.ensures, t0, stress_inputs)
