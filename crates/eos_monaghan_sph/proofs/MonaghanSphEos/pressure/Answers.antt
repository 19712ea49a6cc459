-- The inputs, then the pressure, which is to be finite.
use Rattle.eos_monaghan_sph.specs.Pressure.{pressure_walk}
use Rattle.eos_monaghan_sph.proofs.Laws.{pressure_inputs, returned_then}
use Rattle.eos_monaghan_sph.proofs.MonaghanSphEos.pressure.Goals as goal

pub worked_pressure-requires : goal.worked_pressure-requires
worked_pressure-requires c =
    simp c.inputs_finite.ensures at c.if-inputs_finite.true

pub returns-then-inputs_finite : goal.returns-then-inputs_finite
unfolding pressure_walk
returns-then-inputs_finite c =
    let t0 = simp c.inputs_finite.ensures at c.if-inputs_finite.true in
    simp (c.finite_answer.ensures, c.worked_pressure.ensures, t0, pressure_inputs, returned_then)

pub returns-else-inputs_finite : goal.returns-else-inputs_finite
unfolding pressure_walk
returns-else-inputs_finite c =
    let t0 = simp c.inputs_finite.ensures at c.if-inputs_finite.false in
    simp (t0, pressure_inputs)
