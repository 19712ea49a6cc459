-- What P12 of RULES, section 8, needs of the elementary functions: Drucker-Prager's slope at hardening 1 is a number,
-- and the root of 0 is 0, by computation.
use mathlib.Core.Path.{◌≡◌, refl}
use lib.Ieee as Ieee
use lib.Ieee.{Float, of_bits, to_bits, round, size}
use Rattle.exact.specs.Units.{mag, L}
use Rattle.exact.specs.RootOf.{sqrt_of, floor_root, root_in}
use Rattle.numbers.specs.Floats.{is_number}
use Rattle.answers.specs.declared.Answer.TheVariants.{Value}
use Rattle.exponential.specs.Worked.{exp_of, nearest_of, rest_of, series_of, scale_bits, times_of}
use Rattle.sine.specs.Sine.{sin_of, short_of, horner_of}
use Rattle.tensor.specs.Matrix.{zero, one}
use Rattle.walk.specs.Walk.{walk_result, answer_as}
use Rattle.plasticity_drucker_prager.specs.Law.{defaults_of}
use Rattle.plasticity_drucker_prager.specs.Alpha.{alpha_walk}

pub root_zero : sqrt_of zero ≡ zero
unfolding sqrt_of floor_root root_in mag L of_bits round size
root_zero = refl

pub slope : (l m : Float) → (a : Float) × (answer_as (walk_result (alpha_walk (defaults_of l m) one)) ≡ Value a)
unfolding alpha_walk exp_of nearest_of rest_of series_of scale_bits times_of sin_of short_of horner_of sqrt_of floor_root root_in mag L is_number of_bits to_bits round size Ieee.add Ieee.sub Ieee.mul Ieee.div Ieee.neg Ieee.le Ieee.lt Ieee.eq
slope l m = (_, refl)
