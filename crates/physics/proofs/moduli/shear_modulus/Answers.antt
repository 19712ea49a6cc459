-- `physics::moduli::shear_modulus` answers `given (finite young && finite poisson) (answered_of (shear_modulus_of young poisson))`.
use Rattle.physics.proofs.moduli.shear_modulus.Goals as goal

pub returns-then-is_finite : goal.returns-then-is_finite
returns-then-is_finite c =
    let t0 = simp (c.is_finite-2.ensures, c.is_finite.ensures) at c.if-is_finite.true in
    simp (c.answered.ensures, c.shear_modulus.ensures, t0)

pub returns-else-is_finite : goal.returns-else-is_finite
returns-else-is_finite c =
    let t0 = simp (c.is_finite-2.ensures, c.is_finite.ensures) at c.if-is_finite.false in
    simp (t0)
