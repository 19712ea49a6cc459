-- `physics::plain::shear_modulus` answers `given (finite young && finite poisson) (answered_of (shear_modulus_of young poisson))`.
use mathlib.Core.Path.{refl}
use Rattle.physics.specs.Physics.{shear_modulus_of}
use Rattle.physics.proofs.plain.shear_modulus.Goals as goal

pub returns : goal.returns
unfolding shear_modulus_of
returns c = refl
