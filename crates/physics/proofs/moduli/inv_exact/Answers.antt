-- `physics::moduli::inv_exact` answers `given (finite e) (answered_of (inv_exact_of e))`.
use Rattle.physics.proofs.moduli.inv_exact.Goals as goal

pub returns-then-is_finite : goal.returns-then-is_finite
returns-then-is_finite c =
    let t0 = simp c.is_finite.ensures at c.if-is_finite.true in
    simp (c.answered.ensures, c.inv_exact.ensures, t0)

pub returns-else-is_finite : goal.returns-else-is_finite
returns-else-is_finite c =
    let t0 = simp c.is_finite.ensures at c.if-is_finite.false in
    simp (t0)
