-- `physics::plain::bulk_modulus` answers `given (finite young && finite poisson) (answered_of (bulk_modulus_of young poisson))`.
use mathlib.Core.Path.{refl}
use Rattle.physics.specs.Physics.{bulk_modulus_of}
use Rattle.physics.proofs.plain.bulk_modulus.Goals as goal

pub returns : goal.returns
unfolding bulk_modulus_of
returns c = refl
