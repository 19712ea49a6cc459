-- `failure_maximum_stress::MaximumStressFailure::particle_failed` answers `verdict_of self stresses`.
use Rattle.failure_maximum_stress.specs.Failure.{verdict_of}
use Rattle.failure_maximum_stress.proofs.MaximumStressFailure.particle_failed.Goals as goal

pub returns-then-exceeds : goal.returns-then-exceeds
unfolding verdict_of
returns-then-exceeds c =
    let t0 = simp c.exceeds.ensures at c.if-exceeds.true in
    let t1 = simp (c.row_finite.ensures, c.limits_finite.ensures) at c.if-limits_finite-row_finite.true in
    simp (t0, t1)

pub returns-else-exceeds : goal.returns-else-exceeds
unfolding verdict_of
returns-else-exceeds c =
    let t0 = simp c.exceeds.ensures at c.if-exceeds.false in
    let t1 = simp (c.row_finite.ensures, c.limits_finite.ensures) at c.if-limits_finite-row_finite.true in
    simp (t0, t1)

pub returns-else-limits_finite-row_finite : goal.returns-else-limits_finite-row_finite
unfolding verdict_of
returns-else-limits_finite-row_finite c =
    let t0 = simp (c.row_finite.ensures, c.limits_finite.ensures) at c.if-limits_finite-row_finite.false in
    simp (t0)
