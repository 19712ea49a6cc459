-- The inputs, and then the steps: what is read off the path.
use Rattle.walk.specs.Update.{in_three}
use mathlib.Core.Path.{◌∙◌}
use Rattle.reason.proofs.Why.{why_exactly}
use Rattle.plasticity_snow.specs.Over.{snow_walk}
use Rattle.plasticity_snow.specs.Reason.{bounds_of}
use Rattle.plasticity_snow.proofs.Laws.{inputs_law}
use Rattle.plasticity_snow.proofs.SnowPlasticity.reason.Goals as goal

pub run_reason-requires : goal.run_reason-requires
run_reason-requires c =
    simp (c.inputs_finite.ensures, c.parameters_finite.ensures) at c.if-parameters_finite-inputs_finite.true

pub returns-then-parameters_finite-inputs_finite : goal.returns-then-parameters_finite-inputs_finite
unfolding snow_walk
returns-then-parameters_finite-inputs_finite c =
    let t0 = simp (c.inputs_finite.ensures, c.parameters_finite.ensures) at c.if-parameters_finite-inputs_finite.true in
    let a = c.args in
    (simp (c.run_reason.ensures, c.bounds.ensures, c.inputs_finite.ensures, c.parameters_finite.ensures, t0, inputs_law in_three)) ∙ why_exactly (bounds_of a.self a.s.sigma) (snow_walk in_three a.self a.u a.vt a.s)

pub returns-else-parameters_finite-inputs_finite : goal.returns-else-parameters_finite-inputs_finite
unfolding snow_walk
returns-else-parameters_finite-inputs_finite c =
    let t0 = simp (c.inputs_finite.ensures, c.parameters_finite.ensures) at c.if-parameters_finite-inputs_finite.false in
    let a = c.args in
    (simp (c.inputs_finite.ensures, c.parameters_finite.ensures, t0, inputs_law in_three)) ∙ why_exactly (bounds_of a.self a.s.sigma) (snow_walk in_three a.self a.u a.vt a.s)
