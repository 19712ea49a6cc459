-- `plasticity_drucker_prager::DruckerPragerPlasticity::update_particle` answers `drucker_update self u vt s`.
use Rattle.walk.specs.Update.{in_three}
use Rattle.plasticity_drucker_prager.proofs.Laws.{inputs_law}
use Rattle.plasticity_drucker_prager.specs.Over as over
use Rattle.plasticity_drucker_prager.proofs.DruckerPragerPlasticity.update_particle.Goals as goal

pub returns-then-parameters_finite-inputs_finite : goal.returns-then-parameters_finite-inputs_finite
unfolding over.drucker_walk
returns-then-parameters_finite-inputs_finite c =
    let t0 = simp (c.inputs_finite.ensures, c.parameters_finite.ensures) at c.if-parameters_finite-inputs_finite.true in
    simp (c.run.ensures, t0, inputs_law in_three)

pub returns-else-parameters_finite-inputs_finite : goal.returns-else-parameters_finite-inputs_finite
unfolding over.drucker_walk
returns-else-parameters_finite-inputs_finite c =
    let t0 = simp (c.inputs_finite.ensures, c.parameters_finite.ensures) at c.if-parameters_finite-inputs_finite.false in
    simp (c.refuse.ensures, t0, inputs_law in_three)
