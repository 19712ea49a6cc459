-- `physics::plain::lambda` answers `lambda_of young poisson`.
use mathlib.Core.Path.{refl}
use Rattle.physics.specs.Physics.{lambda_of}
use Rattle.physics.proofs.plain.lambda.Goals as goal

pub returns : goal.returns
unfolding lambda_of
returns c = refl
