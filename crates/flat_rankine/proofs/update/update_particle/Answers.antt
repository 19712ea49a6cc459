-- The inputs, the moduli, and then the steps.
use Rattle.plasticity_rankine.specs.Over as over
use Rattle.plasticity_rankine.proofs.Laws.{inputs_law}
use Rattle.flat.specs.Update.{in_two}
use Rattle.flat_rankine.proofs.Laws.{hardening_finite}
use Rattle.flat_rankine.proofs.update.update_particle.Goals as goal

pub run-requires : goal.run-requires
run-requires c =
    let a = c.args in
    let t = simp (c.inputs_finite.ensures, c.parameters_finite.ensures) at c.if-parameters_finite-inputs_finite.true in
    simp c.law-p.ensures (hardening_finite a.law a.u a.vt a.s t)

pub returns-then-moduli_finite : goal.returns-then-moduli_finite
unfolding over.arguments_walk
returns-then-moduli_finite c =
    let t0 = simp (c.inputs_finite.ensures, c.parameters_finite.ensures) at c.if-parameters_finite-inputs_finite.true in
    let t1 = simp (c.moduli_finite.ensures, c.law-p.ensures) at c.if-moduli_finite.true in
    simp (c.run.ensures, c.law-p.ensures, t0, t1, inputs_law in_two)

pub returns-else-moduli_finite : goal.returns-else-moduli_finite
unfolding over.arguments_walk
returns-else-moduli_finite c =
    let t0 = simp (c.inputs_finite.ensures, c.parameters_finite.ensures) at c.if-parameters_finite-inputs_finite.true in
    let t1 = simp (c.moduli_finite.ensures, c.law-p.ensures) at c.if-moduli_finite.false in
    simp (c.refuse.ensures, t0, t1, inputs_law in_two)

pub returns-else-parameters_finite-inputs_finite : goal.returns-else-parameters_finite-inputs_finite
unfolding over.arguments_walk
returns-else-parameters_finite-inputs_finite c =
    let t0 = simp (c.inputs_finite.ensures, c.parameters_finite.ensures) at c.if-parameters_finite-inputs_finite.false in
    simp (c.refuse-else-parameters_finite-inputs_finite.ensures, t0, inputs_law in_two)
