-- `elasticity_corotated_linear::stress::phase_coeff` answers `phase_coeff p phase`.
use Rattle.elasticity_corotated_linear.proofs.stress.phase_coeff.Goals as goal

pub returns-then-p-phase : goal.returns-then-p-phase
returns-then-p-phase c =
    let t0 = c.if-p-phase.true in
    simp (t0)

pub returns-else-p-phase : goal.returns-else-p-phase
returns-else-p-phase c =
    let t0 = c.if-p-phase.false in
    simp (t0)
