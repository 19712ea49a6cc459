-- `plasticity_drucker_prager::update::finite_results` answers `finite_results f sigma d hardening gain`.
use Rattle.plasticity_drucker_prager.proofs.update.finite_results.Goals as goal

pub returns : goal.returns
returns c =
    simp (c.is_finite-3.ensures, c.is_finite-2.ensures, c.is_finite.ensures, c.row_finite.ensures, c.mat_finite.ensures)
