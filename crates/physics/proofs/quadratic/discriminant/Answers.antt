-- `physics::quadratic::discriminant` answers `discriminant_of a b c`.
use mathlib.Core.Path.{refl}
use Rattle.physics.specs.Quadratic.{discriminant_of}
use Rattle.physics.proofs.quadratic.discriminant.Goals as goal

pub returns : goal.returns
unfolding discriminant_of
returns c = refl
