-- The powers 1/3, 2/3, -1/3 and -2/3 as worked (RULES, section 3): exp (c ln x). How near they are stands in `series`, ThirdsNear;
-- that they are so near, in proofs/Near.
use Rattle.std.specs.Float.Ieee as Ieee
use Rattle.std.specs.Prelude.{Float}
use Rattle.std.specs.Float.{binary64}
use Rattle.std.specs.Float.Ieee.{of_bits}
use Rattle.answers.specs.Range.{ranged}
use Rattle.answers.specs.declared.Answer.{Answer}
use Rattle.exponential.specs.Worked.{exp_of}
use Rattle.logarithm.specs.Worked.{ln_of}

-- from 2 ^ -60
abbrev pub low : Float
low = of_bits binary64 0x3c30_0000_0000_0000

-- to 2 ^ 60
abbrev pub high : Float
high = of_bits binary64 0x43b0_0000_0000_0000

-- 1/3 and 2/3, less 2 ^ -54 of themselves
abbrev pub third : Float
third = of_bits binary64 0x3fd5_5555_5555_5555

abbrev pub two_thirds : Float
two_thirds = of_bits binary64 0x3fe5_5555_5555_5555

-- x ^ c
abbrev pub power_of : Float → Float → Float
power_of x c = exp_of (Ieee.mul binary64 (ln_of x) c)

unfoldable pub cbrt_of : Float → Float
cbrt_of x = power_of x third

unfoldable pub cbrt_squared_of : Float → Float
cbrt_squared_of x = power_of x two_thirds

unfoldable pub inv_cbrt_of : Float → Float
inv_cbrt_of x = power_of x (Ieee.neg third)

unfoldable pub inv_cbrt_squared_of : Float → Float
inv_cbrt_squared_of x = power_of x (Ieee.neg two_thirds)

-- what each answers at a number: its value within the range, or the refusal
abbrev pub cbrt_ranged : Float → Answer
cbrt_ranged x = ranged low high x (cbrt_of x)

abbrev pub cbrt_squared_ranged : Float → Answer
cbrt_squared_ranged x = ranged low high x (cbrt_squared_of x)

abbrev pub inv_cbrt_ranged : Float → Answer
inv_cbrt_ranged x = ranged low high x (inv_cbrt_of x)

abbrev pub inv_cbrt_squared_ranged : Float → Answer
inv_cbrt_squared_ranged x = ranged low high x (inv_cbrt_squared_of x)
