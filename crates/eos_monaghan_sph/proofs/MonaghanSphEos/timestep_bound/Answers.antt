-- The inputs, then the pressure, then the steps.
use Rattle.walk.proofs.Exact.{number_then}
use Rattle.eos_monaghan_sph.specs.Timestep.{timestep_walk}
use Rattle.eos_monaghan_sph.proofs.Laws.{timestep_inputs, timestep_shared, timestep_own}
use Rattle.eos_monaghan_sph.proofs.MonaghanSphEos.timestep_bound.Goals as goal

pub worked_pressure-p-requires : goal.worked_pressure-p-requires
worked_pressure-p-requires c =
    let t0 = simp (c.is_finite-2.ensures, c.row_finite.ensures, c.is_finite.ensures, c.inputs_finite.ensures) at c.if-inputs_finite-is_finite.true in
    let a = c.args in
    timestep_shared a.self a.mass a.volume a.density a.j a.velocity a.width t0

pub bound_from-requires : goal.bound_from-requires
bound_from-requires c =
    let t0 = simp (c.is_finite-2.ensures, c.row_finite.ensures, c.is_finite.ensures, c.inputs_finite.ensures) at c.if-inputs_finite-is_finite.true in
    let a = c.args in
    timestep_own a.self a.mass a.volume a.density a.j a.velocity a.width t0

pub returns-then-inputs_finite-is_finite : goal.returns-then-inputs_finite-is_finite
unfolding timestep_walk
returns-then-inputs_finite-is_finite c =
    let t0 = simp (c.is_finite-2.ensures, c.row_finite.ensures, c.is_finite.ensures, c.inputs_finite.ensures) at c.if-inputs_finite-is_finite.true in
    simp (c.bound_from.ensures, c.worked_pressure-p.ensures, t0, timestep_inputs, number_then)

pub returns-else-inputs_finite-is_finite : goal.returns-else-inputs_finite-is_finite
unfolding timestep_walk
returns-else-inputs_finite-is_finite c =
    let t0 = simp (c.is_finite-2.ensures, c.row_finite.ensures, c.is_finite.ensures, c.inputs_finite.ensures) at c.if-inputs_finite-is_finite.false in
    simp (t0, timestep_inputs)
