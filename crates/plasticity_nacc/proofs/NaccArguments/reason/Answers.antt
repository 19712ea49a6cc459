-- `plasticity_nacc::NaccArguments::reason` answers `reason_of (arguments_walk self u vt s)`.
use Rattle.walk.specs.Update.{in_three}
use Rattle.plasticity_nacc.specs.Law.{arguments_finite}
use Rattle.plasticity_nacc.proofs.Told.{arguments_told}
use Rattle.plasticity_nacc.proofs.Laws.{alpha_finite}
use Rattle.plasticity_nacc.proofs.NaccArguments.reason.Goals as goal

pub run_reason-requires : goal.run_reason-requires
run_reason-requires c =
    let a = c.args in
    alpha_finite in_three (arguments_finite a.self) a.u a.vt a.s (simp (c.inputs_finite.ensures, c.parameters_finite.ensures) at c.if-parameters_finite-inputs_finite.true)

pub returns-then-parameters_finite-inputs_finite : goal.returns-then-parameters_finite-inputs_finite
returns-then-parameters_finite-inputs_finite c =
    let t0 = simp (c.inputs_finite.ensures, c.parameters_finite.ensures) at c.if-parameters_finite-inputs_finite.true in
    simp (c.run_reason.ensures, c.law.ensures, arguments_told, t0)

pub returns-else-parameters_finite-inputs_finite : goal.returns-else-parameters_finite-inputs_finite
returns-else-parameters_finite-inputs_finite c =
    let t0 = simp (c.inputs_finite.ensures, c.parameters_finite.ensures) at c.if-parameters_finite-inputs_finite.false in
    simp (arguments_told, t0)
