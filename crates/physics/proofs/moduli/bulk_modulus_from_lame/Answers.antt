-- `physics::moduli::bulk_modulus_from_lame` answers `given (finite lambda && finite mu) (answered_of (bulk_from_lame_of lambda mu))`.
use Rattle.physics.proofs.moduli.bulk_modulus_from_lame.Goals as goal

pub returns-then-is_finite : goal.returns-then-is_finite
returns-then-is_finite c =
    let t0 = simp (c.is_finite-2.ensures, c.is_finite.ensures) at c.if-is_finite.true in
    simp (c.answered.ensures, c.bulk_modulus_from_lame.ensures, t0)

pub returns-else-is_finite : goal.returns-else-is_finite
returns-else-is_finite c =
    let t0 = simp (c.is_finite-2.ensures, c.is_finite.ensures) at c.if-is_finite.false in
    simp (t0)
