-- The inputs, the moduli, and then the steps: what is read off the path.
use mathlib.Core.Path.{◌∙◌}
use Rattle.reason.proofs.Why.{why_of}
use Rattle.plasticity_rankine.specs.Over as over
use Rattle.plasticity_rankine.specs.Rankine.{rankine_walk}
use Rattle.walk.specs.Update.{in_three}
use Rattle.plasticity_rankine.proofs.Laws.{inputs_law}
use Rattle.plasticity_rankine.proofs.RankinePlasticity.reason.Goals as goal

pub run_reason-requires : goal.run_reason-requires
run_reason-requires c =
    simp (c.inputs_finite.ensures, c.parameters_finite.ensures) at c.if-parameters_finite-inputs_finite.true

pub returns-then-moduli_finite : goal.returns-then-moduli_finite
unfolding over.rankine_walk
returns-then-moduli_finite c =
    let t0 = simp (c.inputs_finite.ensures, c.parameters_finite.ensures) at c.if-parameters_finite-inputs_finite.true in
    let t1 = simp (c.moduli_finite.ensures, c.inputs_finite.ensures, c.parameters_finite.ensures) at c.if-moduli_finite.true in
    let a = c.args in
    (simp (c.run_reason.ensures, c.moduli_finite.ensures, c.inputs_finite.ensures, c.parameters_finite.ensures, t0, t1, inputs_law in_three)) ∙ why_of (rankine_walk a.self a.u a.vt a.s)

pub returns-else-moduli_finite : goal.returns-else-moduli_finite
unfolding over.rankine_walk
returns-else-moduli_finite c =
    let t0 = simp (c.inputs_finite.ensures, c.parameters_finite.ensures) at c.if-parameters_finite-inputs_finite.true in
    let t1 = simp (c.moduli_finite.ensures, c.inputs_finite.ensures, c.parameters_finite.ensures) at c.if-moduli_finite.false in
    let a = c.args in
    (simp (c.moduli_finite.ensures, c.inputs_finite.ensures, c.parameters_finite.ensures, t0, t1, inputs_law in_three)) ∙ why_of (rankine_walk a.self a.u a.vt a.s)

pub returns-else-parameters_finite-inputs_finite : goal.returns-else-parameters_finite-inputs_finite
unfolding over.rankine_walk
returns-else-parameters_finite-inputs_finite c =
    let t0 = simp (c.inputs_finite.ensures, c.parameters_finite.ensures) at c.if-parameters_finite-inputs_finite.false in
    let a = c.args in
    (simp (c.inputs_finite.ensures, c.parameters_finite.ensures, t0, inputs_law in_three)) ∙ why_of (rankine_walk a.self a.u a.vt a.s)
