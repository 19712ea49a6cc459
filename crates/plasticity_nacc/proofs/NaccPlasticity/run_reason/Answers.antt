-- `plasticity_nacc::NaccPlasticity::run_reason` answers `reason_of (moduli self (run_walk self u vt s))`.
use Rattle.plasticity_nacc.proofs.Laws.{project_law}
use Rattle.plasticity_nacc.proofs.Told.{run_told, moduli_told}
use Rattle.plasticity_nacc.proofs.NaccPlasticity.run_reason.Goals as goal

pub returns-then-moduli_finite : goal.returns-then-moduli_finite
returns-then-moduli_finite c =
    let t0 = simp c.moduli_finite.ensures at c.if-moduli_finite.true in
    simp (c.branch_reason.ensures, c.project.ensures, moduli_told, run_told, project_law, t0)

pub returns-else-moduli_finite : goal.returns-else-moduli_finite
returns-else-moduli_finite c =
    let t0 = simp c.moduli_finite.ensures at c.if-moduli_finite.false in
    simp (moduli_told, t0)
