-- NACC's m of a friction angle, by hand (RULES, section 5): in three axes the two roots are one and cancel, so that an angle of 30 degrees, whose sine is 1/2, has
-- m = 2 (1/2) / (3 - 1/2) * 3 = 6/5; in two axes it is 4/5 times the root of 4/3, less a unit of the last place. By computation.
use mathlib.Core.Path.{◌≡◌, refl}
use lib.Ieee as Ieee
use lib.Ieee.{Float, binary64, of_bits, round, size}
use Rattle.exact.specs.Units.{mag, L}
use Rattle.exact.specs.RootOf.{sqrt_of, floor_root, root_in}
use Rattle.numbers.specs.Constants.{two, three}
use Rattle.numbers.specs.Floats.{finite, is_number}
use Rattle.answers.specs.declared.Answer.TheVariants.{Value}
use Rattle.sine.specs.Sine.{sin_of, short_of, horner_of}
use Rattle.plasticity_nacc.specs.Friction.{friction_of, friction_call, friction_walk}

abbrev thirty_degrees : Float
thirty_degrees = of_bits binary64 0x3fe0_c152_382d_7365

pub in_three_axes : friction_of three thirty_degrees ≡ Value (of_bits binary64 0x3ff3_3333_3333_3333)
unfolding friction_call friction_walk sin_of short_of horner_of sqrt_of floor_root root_in mag L finite is_number of_bits round size Ieee.add Ieee.sub Ieee.mul Ieee.div Ieee.neg Ieee.le Ieee.lt Ieee.eq
in_three_axes = refl

pub in_two_axes : friction_of two thirty_degrees ≡ Value (of_bits binary64 0x3fed_8f72_08e6_b82c)
unfolding friction_call friction_walk sin_of short_of horner_of sqrt_of floor_root root_in mag L finite is_number of_bits round size Ieee.add Ieee.sub Ieee.mul Ieee.div Ieee.neg Ieee.le Ieee.lt Ieee.eq
in_two_axes = refl
