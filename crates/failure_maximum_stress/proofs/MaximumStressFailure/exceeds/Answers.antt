-- `failure_maximum_stress::MaximumStressFailure::exceeds` answers `exceeds_of self stresses`.
use Rattle.failure_maximum_stress.specs.Failure.{over_limit}
use Rattle.failure_maximum_stress.proofs.MaximumStressFailure.exceeds.Goals as goal

pub returns : goal.returns
unfolding over_limit
returns c =
    simp (c.smallest-min.ensures, c.largest-max.ensures)
