-- `plasticity_drucker_prager::DruckerPragerPlasticity::reason` answers `reason_of (drucker_walk self u vt s)`.
use Rattle.plasticity_drucker_prager.proofs.Told.{drucker_told}
use Rattle.plasticity_drucker_prager.proofs.DruckerPragerPlasticity.reason.Goals as goal

pub returns-then-parameters_finite-inputs_finite : goal.returns-then-parameters_finite-inputs_finite
returns-then-parameters_finite-inputs_finite c =
    let t0 = simp (c.inputs_finite.ensures, c.parameters_finite.ensures) at c.if-parameters_finite-inputs_finite.true in
    simp (c.run_reason.ensures, drucker_told, t0)

pub returns-else-parameters_finite-inputs_finite : goal.returns-else-parameters_finite-inputs_finite
returns-else-parameters_finite-inputs_finite c =
    let t0 = simp (c.inputs_finite.ensures, c.parameters_finite.ensures) at c.if-parameters_finite-inputs_finite.false in
    simp (drucker_told, t0)
