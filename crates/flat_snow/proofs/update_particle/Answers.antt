-- `flat_snow::update_particle` answers `snow_update law u vt s`.
use Rattle.plasticity_snow.specs.Over.{snow_walk}
use Rattle.plasticity_snow.proofs.Laws.{inputs_law}
use Rattle.flat.specs.Update.{in_two}
use Rattle.flat_snow.proofs.update_particle.Goals as goal

pub run-requires : goal.run-requires
run-requires c =
    simp (c.inputs_finite.ensures, c.parameters_finite.ensures) at c.if-parameters_finite-inputs_finite.true

pub returns-then-parameters_finite-inputs_finite : goal.returns-then-parameters_finite-inputs_finite
unfolding snow_walk
returns-then-parameters_finite-inputs_finite c =
    let t0 = simp (c.inputs_finite.ensures, c.parameters_finite.ensures) at c.if-parameters_finite-inputs_finite.true in
    simp (c.run.ensures, c.inputs_finite.ensures, c.parameters_finite.ensures, t0, inputs_law in_two)

pub returns-else-parameters_finite-inputs_finite : goal.returns-else-parameters_finite-inputs_finite
unfolding snow_walk
returns-else-parameters_finite-inputs_finite c =
    let t0 = simp (c.inputs_finite.ensures, c.parameters_finite.ensures) at c.if-parameters_finite-inputs_finite.false in
    simp (c.refuse.ensures, c.inputs_finite.ensures, c.parameters_finite.ensures, t0, inputs_law in_two)
