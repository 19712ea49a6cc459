-- Two F that are not diagonal, factored: the check, which is exact, passes what the sweeps give. By computation.
use mathlib.Core.Path.{◌≡◌, refl}
use mathlib.Core.Bool.{true, false}
use mathlib.Core.List.{List}
use Prim.Native.Nat.{ℕ}
use lib.Ieee as Ieee
use lib.Ieee.{Float, binary64, of_bits}
use Rattle.exact.specs.Units.{mag, L}
use Rattle.exact.specs.Integers.{abs}
use Rattle.exact.specs.Value.{val}
use Rattle.numbers.specs.Floats.{finite}
use Rattle.nearness.specs.Near.{near, near_row, near_all, orthogonal_of}
use Rattle.tensor.specs.Matrix.{three}
use Rattle.factors.specs.Turns as turns
use Rattle.factors.specs.Sweeps as sweeps
use Rattle.factors.specs.Check.{largest_of, largest_in, not_below, accepted_of}
use Rattle.factors.specs.Answers.{factored_of}

abbrev f64 : ℕ → Float
f64 x = of_bits binary64 x

-- 0, 1/8, 1/4, 1/2, 1, 2, 3 and -1/2
abbrev none : Float
none = f64 0

abbrev eighth : Float
eighth = f64 0x3fc0_0000_0000_0000

abbrev quarter : Float
quarter = f64 0x3fd0_0000_0000_0000

abbrev half : Float
half = f64 0x3fe0_0000_0000_0000

abbrev unit : Float
unit = f64 0x3ff0_0000_0000_0000

abbrev two : Float
two = f64 0x4000_0000_0000_0000

abbrev three_of : Float
three_of = f64 0x4008_0000_0000_0000

abbrev minus_half : Float
minus_half = f64 0xbfe0_0000_0000_0000

-- no two entries on either side of the diagonal alike
abbrev sheared : List (List Float)
sheared = three (three unit half none) (three quarter unit eighth) (three minus_half none two)

-- the determinant is -6
abbrev mirrored : List (List Float)
mirrored = three (three none unit none) (three two none none) (three none none three_of)

sheared_factored : (factored_of sheared).refusal ≡ 0
unfolding factored_of accepted_of largest_of largest_in not_below near near_row near_all orthogonal_of sweeps.factors_of sweeps.signed_row_of sweeps.worked_of sweeps.start_of sweeps.least_of sweeps.step_of sweeps.settled_of sweeps.pair_of sweeps.next_of sweeps.alike_of sweeps.unlike_of sweeps.both_of sweeps.columns_of sweeps.mixed_of sweeps.turned_of sweeps.down_of sweeps.up_of turns.after_of turns.half_turn_of turns.half_angle_of turns.back_of turns.steep_of turns.doubled_of turns.quarter_of turns.tiny_of turns.size_of abs val mag L finite of_bits Ieee.add Ieee.sub Ieee.mul Ieee.div Ieee.neg Ieee.le Ieee.lt Ieee.eq
sheared_factored = refl

mirrored_factored : (factored_of mirrored).refusal ≡ 0
unfolding factored_of accepted_of largest_of largest_in not_below near near_row near_all orthogonal_of sweeps.factors_of sweeps.signed_row_of sweeps.worked_of sweeps.start_of sweeps.least_of sweeps.step_of sweeps.settled_of sweeps.pair_of sweeps.next_of sweeps.alike_of sweeps.unlike_of sweeps.both_of sweeps.columns_of sweeps.mixed_of sweeps.turned_of sweeps.down_of sweeps.up_of turns.after_of turns.half_turn_of turns.half_angle_of turns.back_of turns.steep_of turns.doubled_of turns.quarter_of turns.tiny_of turns.size_of abs val mag L finite of_bits Ieee.add Ieee.sub Ieee.mul Ieee.div Ieee.neg Ieee.le Ieee.lt Ieee.eq
mirrored_factored = refl
