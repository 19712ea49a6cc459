-- The inputs, the moduli, and then the steps.
use Rattle.plasticity_rankine.specs.Over as over
use Rattle.walk.specs.Update.{in_three}
use Rattle.plasticity_rankine.proofs.Laws.{inputs_law}
use Rattle.plasticity_rankine.proofs.RankinePlasticity.update_particle.Goals as goal

pub run-requires : goal.run-requires
run-requires c =
    simp (c.inputs_finite.ensures, c.parameters_finite.ensures) at c.if-parameters_finite-inputs_finite.true

pub returns-then-moduli_finite : goal.returns-then-moduli_finite
unfolding over.rankine_walk
returns-then-moduli_finite c =
    let t0 = simp (c.inputs_finite.ensures, c.parameters_finite.ensures) at c.if-parameters_finite-inputs_finite.true in
    let t1 = simp c.moduli_finite.ensures at c.if-moduli_finite.true in
    simp (c.run.ensures, t0, t1, inputs_law in_three)

pub returns-else-moduli_finite : goal.returns-else-moduli_finite
unfolding over.rankine_walk
returns-else-moduli_finite c =
    let t0 = simp (c.inputs_finite.ensures, c.parameters_finite.ensures) at c.if-parameters_finite-inputs_finite.true in
    let t1 = simp c.moduli_finite.ensures at c.if-moduli_finite.false in
    simp (c.refuse.ensures, t0, t1, inputs_law in_three)

pub returns-else-parameters_finite-inputs_finite : goal.returns-else-parameters_finite-inputs_finite
unfolding over.rankine_walk
returns-else-parameters_finite-inputs_finite c =
    let t0 = simp (c.inputs_finite.ensures, c.parameters_finite.ensures) at c.if-parameters_finite-inputs_finite.false in
    simp (c.refuse-else-parameters_finite-inputs_finite.ensures, t0, inputs_law in_three)
