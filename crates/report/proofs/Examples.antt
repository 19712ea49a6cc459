-- Values at the ends, worked by the definitions: patterns in, the column out.
use Rattle.std.proofs.Common.{◌≡◌, ℕ, List, [], ◌∷◌, refl}
use lib.Ieee.{Float, binary64, of_bits}
use Rattle.exact.specs.Units.{L, mag}
use Rattle.exact.specs.Value.{val}
use Rattle.numbers.specs.Floats.{finite}
use Rattle.report.specs.Whole.{whole_of, within, is_counted, is_outside, is_not_finite}
use Rattle.report.specs.Column.{those, word, first_from, sum_of, column_of}
use Rattle.report.specs.declared.column.Column.{Column}

abbrev of : List ℕ → List Float
of [] = []
of (n ∷ ns) = of_bits binary64 n ∷ of ns

-- 2^20 and -2^20 are counted, and -2^-1074 is -2^-30; the next number above 2^20, an infinity and a NaN stand apart
ends : column_of (of (0x4130_0000_0000_0000 ∷ 0xc130_0000_0000_0000 ∷ 0x8000_0000_0000_0001 ∷ 0x4130_0000_0000_0001 ∷ 0x7ff0_0000_0000_0000 ∷ 0xfff8_0000_0000_0001 ∷ []))
    ≡ record { count = 3; least = 0xfffc_0000_0000_0000; greatest = 0x4_0000_0000_0000; total = 0xffff_ffff_ffff_ffff; outside = 1; not_finite = 2 }
unfolding column_of those is_counted is_outside is_not_finite within whole_of val mag L finite word first_from sum_of of_bits
ends = refl

-- a negative zero is 0, and -1.5 * 2^-30 is -2
zeros : column_of (of (0x8000_0000_0000_0000 ∷ 0xbe18_0000_0000_0000 ∷ []))
    ≡ record { count = 2; least = 0xffff_ffff_ffff_fffe; greatest = 0; total = 0xffff_ffff_ffff_fffe; outside = 0; not_finite = 0 }
unfolding column_of those is_counted is_outside is_not_finite within whole_of val mag L finite word first_from sum_of of_bits
zeros = refl
