-- `physics::plain::bulk_modulus_from_lame` answers `given (finite lambda && finite mu) (answered_of (bulk_from_lame_of lambda mu))`.
use mathlib.Core.Path.{refl}
use Rattle.physics.specs.Physics.{bulk_from_lame_of}
use Rattle.physics.proofs.plain.bulk_modulus_from_lame.Goals as goal

pub returns : goal.returns
unfolding bulk_from_lame_of
returns c = refl
