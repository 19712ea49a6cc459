-- RULES, section 8, P10 and P11.
use mathlib.Core.Path.{◌≡◌, refl}
use lib.Ieee as Ieee
use lib.Ieee.{Float, binary64, of_bits}
use Rattle.numbers.specs.Constants.{two, four}
use Rattle.numbers.specs.Floats.{finite, is_number}
use Rattle.tensor.specs.Matrix.{three, zero, one}
use Rattle.failure_maximum_stress.specs.Failure.{verdict_of, over_limit}
use Rattle.failure_maximum_stress.specs.declared.MaximumStressFailure.{MaximumStressFailure}
use Rattle.failure_maximum_stress.specs.declared.Verdict.TheVariants.{No, Yes}

abbrev limits : Float → Float → MaximumStressFailure
limits principal shear = record { max_principal_stress = principal; max_shear_stress = shear }

abbrev five : Float
five = of_bits binary64 0x4014_0000_0000_0000

abbrev nine : Float
nine = of_bits binary64 0x4022_0000_0000_0000

-- limits 5 and 9, stresses 5, 0, 0: no failure
pub P10 : verdict_of (limits five nine) (three five zero zero) ≡ No
unfolding verdict_of over_limit finite is_number Ieee.lt Ieee.sub Ieee.div Ieee.neg of_bits
P10 = refl

-- limits 5 and 2, stresses 4, 0, -1: failure
pub P11 : verdict_of (limits five two) (three four zero (Ieee.neg one)) ≡ Yes
unfolding verdict_of over_limit finite is_number Ieee.lt Ieee.sub Ieee.div Ieee.neg of_bits
P11 = refl
