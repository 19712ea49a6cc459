-- RULES, section 8, P4: inv_exact(0.0) is 0.0.
use mathlib.Core.Path.{◌≡◌, refl}
use lib.Ieee as Ieee
use lib.Ieee.{of_bits}
use Rattle.numbers.specs.Floats.{finite}
use Rattle.answers.specs.Answer.{answered_of, given}
use Rattle.answers.specs.declared.Answer.TheVariants.{Value}
use Rattle.tensor.specs.Matrix.{zero}
use Rattle.physics.specs.Physics.{inv_exact_of}

pub P4 : given (finite zero) (answered_of (inv_exact_of zero)) ≡ Value zero
unfolding inv_exact_of finite Ieee.eq of_bits
P4 = refl
