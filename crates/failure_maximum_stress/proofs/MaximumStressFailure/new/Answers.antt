-- `failure_maximum_stress::MaximumStressFailure::new` answers `limits_of principal shear`.
use Rattle.failure_maximum_stress.specs.Failure.{limits_of}
use Rattle.failure_maximum_stress.proofs.MaximumStressFailure.new.Goals as goal

pub returns-then-is_finite : goal.returns-then-is_finite
unfolding limits_of
returns-then-is_finite c =
    let t0 = simp (c.is_finite-2.ensures, c.is_finite.ensures) at c.if-is_finite.true in
    simp (t0)

pub returns-else-is_finite : goal.returns-else-is_finite
unfolding limits_of
returns-else-is_finite c =
    let t0 = simp (c.is_finite-2.ensures, c.is_finite.ensures) at c.if-is_finite.false in
    simp (t0)
