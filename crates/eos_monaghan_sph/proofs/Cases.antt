-- RULES, section 8, P6 to P9: pressure0 10, mass and volume 1, largest negative pressure 1.
use mathlib.Core.Path.{◌≡◌, refl}
use Prim.Native.Nat.{ℕ}
use lib.Ieee as Ieee
use lib.Ieee.{Float, binary64, of_bits}
use Rattle.numbers.specs.Constants.{two}
use Rattle.numbers.specs.Floats.{finite, is_number}
use Rattle.answers.specs.declared.Answer.{Answer}
use Rattle.answers.specs.declared.Answer.TheVariants.{Value}
use Rattle.tensor.specs.Matrix.{zero, one}
use Rattle.walk.specs.Power.{power, halved}
use Rattle.eos_monaghan_sph.specs.Pressure.{floats, pressure_steps, pressure_walk, pressure_of}

abbrev ten : Float
ten = of_bits binary64 0x4024_0000_0000_0000

abbrev pressure_at : ℕ → Float → Answer
pressure_at gamma density =
    pressure_of (record { pressure0 = ten; gamma = gamma; viscosity = zero; max_neg_pressure = one }) one one density

-- gamma 2, density 2: 30
pub P6 : pressure_at 2 two ≡ Value (of_bits binary64 0x403e_0000_0000_0000)
unfolding pressure_walk floats pressure_steps power halved finite is_number Ieee.lt Ieee.sub Ieee.mul Ieee.div Ieee.neg of_bits
P6 = refl

-- gamma 2, density 0: -1
pub P7 : pressure_at 2 zero ≡ Value (Ieee.neg one)
unfolding pressure_walk floats pressure_steps power halved finite is_number Ieee.lt Ieee.sub Ieee.mul Ieee.div Ieee.neg of_bits
P7 = refl

-- gamma 0, density 2: 0
pub P8 : pressure_at 0 two ≡ Value zero
unfolding pressure_walk floats pressure_steps power halved finite is_number Ieee.lt Ieee.sub Ieee.mul Ieee.div Ieee.neg of_bits
P8 = refl

-- gamma 4,294,967,295, which means -1, density 0.5: 10
pub P9 : pressure_at 4294967295 (of_bits binary64 0x3fe0_0000_0000_0000) ≡ Value ten
unfolding pressure_walk floats pressure_steps power halved finite is_number Ieee.lt Ieee.sub Ieee.mul Ieee.div Ieee.neg of_bits
P9 = refl
