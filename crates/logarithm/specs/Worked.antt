-- What the logarithm works (RULES, section 3): the exponent times log 2, and for the number from 1 to 2 that the exponent leaves a factor
-- from a table and five terms of the series. How near it is stands in `series`, LogNear; that it is so near, in proofs/Laws.
use Rattle.std.specs.Prelude.{ℕ, ◌+◌, ◌/◌, ◌%◌, ◌^◌, Float}
use Rattle.std.specs.Float.Ieee as Ieee
use Rattle.std.specs.Float.{binary64}
use Rattle.std.specs.Float.Ieee.{of_bits, to_bits}
use Rattle.logarithm.specs.declared.entries.Entry.{Entry}
use Rattle.logarithm.specs.Entries.{factor_of}

-- the range from 2^-60 to 2^60
abbrev pub low : Float
low = of_bits binary64 0x3c30_0000_0000_0000

abbrev pub high : Float
high = of_bits binary64 0x43b0_0000_0000_0000

-- the number from 1 to 2 with the digits of the bits n, times a factor, less 1
abbrev pub rest_of : ℕ → Float → Float
rest_of n c = Ieee.sub binary64 (Ieee.mul binary64 (of_bits binary64 (0x3ff0_0000_0000_0000 + n % 2 ^ 52)) c) (of_bits binary64 0x3ff0_0000_0000_0000)

-- log (1 + r) by r - r^2 / 2 + r^3 / 3 - r^4 / 4 + r^5 / 5
unfoldable pub part_of : Float → Float
part_of r =
    let half = of_bits binary64 0xbfe0_0000_0000_0000 in
    let third = of_bits binary64 0x3fd5_5555_5555_5555 in
    let fourth = of_bits binary64 0xbfd0_0000_0000_0000 in
    let fifth = of_bits binary64 0x3fc9_9999_9999_999a in
    Ieee.add binary64 r (Ieee.mul binary64 (Ieee.mul binary64 r r) (Ieee.add binary64 half (Ieee.mul binary64 r (Ieee.add binary64 third (Ieee.mul binary64 r (Ieee.add binary64 fourth (Ieee.mul binary64 r fifth)))))))

-- the exponent of a positive number with the bits n, and the logarithm of what is left of it, by an entry of the table
unfoldable pub exponent_of : ℕ → Float
exponent_of n = Ieee.sub binary64 (of_bits binary64 (0x4330_0000_0000_0000 + n / 2 ^ 52)) (of_bits binary64 0x4330_0000_0000_03ff)

abbrev pub left_of : ℕ → Entry → Float
left_of n f = Ieee.add binary64 f.log (part_of (rest_of n f.c))

unfoldable pub fraction_of : ℕ → Float
fraction_of n = left_of n (factor_of (n / 2 ^ 44 % 256))

-- log 2
abbrev pub ln2 : Float
ln2 = of_bits binary64 0x3fe6_2e42_fefa_39ef

unfoldable pub ln_of : Float → Float
ln_of x =
    let n = to_bits binary64 x in
    Ieee.add binary64 (Ieee.mul binary64 (exponent_of n) ln2) (fraction_of n)
