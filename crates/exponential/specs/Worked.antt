-- What the exponential works (RULES, section 3): x is k ln 2 / 128 and a rest r, and exp x is 2^(k / 128) from a table, times the series
-- at r. How near it is stands in `series`, ExpNear; that it is so near, in proofs/Near.
use Rattle.std.specs.Prelude.{ℕ, ◌+◌, ◌*◌, ◌/◌, ◌%◌, ◌^◌, ◌≤◌, T, Float}
use Rattle.std.specs.Float.Ieee as Ieee
use Rattle.std.specs.Float.{binary64}
use Rattle.std.specs.Float.Ieee.{of_bits, to_bits}
use Rattle.std.specs.Float.Ieee.Scale as Scale
use Rattle.exact.specs.Units.{L, mag}
use Rattle.numbers.specs.Constants.{half}
use Rattle.exponential.specs.Entries.{power_of}

-- the range from -700 to 700
abbrev pub low : Float
low = Ieee.neg (of_bits binary64 0x4085_e000_0000_0000)

abbrev pub high : Float
high = of_bits binary64 0x4085_e000_0000_0000

-- a finite number of at most that size
abbrev pub Sized : Float → Type 0
Sized x = T (Scale.finite x) × (mag x ≤ 700 * L)

-- 1.5 * 2^52 + 1023 * 128: a sum near it is rounded to a whole number, which its last bits hold
abbrev pub shift : Float
shift = of_bits binary64 0x4338_0000_0001_ff80

-- 128 / ln 2
abbrev pub rate : Float
rate = of_bits binary64 0x4067_1547_652b_82fe

-- ln 2 / 128 in two parts: the first has 35 bits, so that a whole number below 2^17 times it is exact
abbrev pub first : Float
first = of_bits binary64 0x3f76_2e42_fef8_0000

abbrev pub second : Float
second = of_bits binary64 0x3d41_cf79_abc9_e3b4

-- 1 / 6 and 1 / 24
abbrev pub sixth : Float
sixth = of_bits binary64 0x3fc5_5555_5555_5555

abbrev pub last : Float
last = of_bits binary64 0x3fa5_5555_5555_5555

-- k + shift, for the whole number k nearest to 128 x / ln 2
unfoldable pub nearest_of : Float → Float
nearest_of x = Ieee.add binary64 (Ieee.mul binary64 x rate) shift

-- x less k ln 2 / 128
unfoldable pub rest_of : Float → Float → Float
rest_of x k = Ieee.sub binary64 (Ieee.sub binary64 x (Ieee.mul binary64 k first)) (Ieee.mul binary64 k second)

-- r + r^2 / 2 + r^3 / 6 + r^4 / 24
unfoldable pub series_of : Float → Float
series_of r = Ieee.add binary64 r (Ieee.mul binary64 (Ieee.mul binary64 r r) (Ieee.add binary64 half (Ieee.mul binary64 r (Ieee.add binary64 sixth (Ieee.mul binary64 r last)))))

-- the bits of 2^(k / 128), from those of k + shift: a shift by 52 keeps only the exponent's field
unfoldable pub scale_bits : ℕ → ℕ
scale_bits n = n / 128 * 2 ^ 52 % 2 ^ 64 + power_of (n % 128)

-- s (1 + p)
unfoldable pub times_of : Float → Float → Float
times_of s p = Ieee.add binary64 s (Ieee.mul binary64 s p)

unfoldable pub exp_of : Float → Float
exp_of x = let t = nearest_of x in times_of (of_bits binary64 (scale_bits (to_bits binary64 t))) (series_of (rest_of x (Ieee.sub binary64 t shift)))
