-- `physics::plain::inv_exact` answers `given (finite e) (answered_of (inv_exact_of e))`.
use Rattle.physics.specs.Physics.{inv_exact_of}
use Rattle.physics.proofs.plain.inv_exact.Goals as goal

pub returns-then-e : goal.returns-then-e
unfolding inv_exact_of
returns-then-e c =
    let t0 = c.if-e.true in
    simp (t0)

pub returns-else-e : goal.returns-else-e
unfolding inv_exact_of
returns-else-e c =
    let t0 = c.if-e.false in
    simp (t0)
