-- `failure_maximum_stress::MaximumStressFailure::limits_finite` answers `limits_finite self`.
use Rattle.failure_maximum_stress.proofs.MaximumStressFailure.limits_finite.Goals as goal

pub returns : goal.returns
returns c =
    simp (c.is_finite-2.ensures, c.is_finite.ensures)
