-- Roots that compute.
use mathlib.Core.Path.{◌≡◌, refl}
use lib.Ieee.{binary64, of_bits, round, size}
use Rattle.exact.specs.Units.{mag, L}
use Rattle.exact.specs.RootOf.{sqrt_of, floor_root, root_in}

pub of_four : sqrt_of (of_bits binary64 0x4010_0000_0000_0000) ≡ of_bits binary64 0x4000_0000_0000_0000
unfolding sqrt_of floor_root root_in mag L of_bits round size
of_four = refl

pub of_two : sqrt_of (of_bits binary64 0x4000_0000_0000_0000) ≡ of_bits binary64 0x3ff6_a09e_667f_3bcd
unfolding sqrt_of floor_root root_in mag L of_bits round size
of_two = refl

-- the least value above 0, 2 ^ -1074
pub of_least : sqrt_of (of_bits binary64 1) ≡ of_bits binary64 0x1e60_0000_0000_0000
unfolding sqrt_of floor_root root_in mag L of_bits round size
of_least = refl

-- the largest
pub of_largest : sqrt_of (of_bits binary64 0x7fef_ffff_ffff_ffff) ≡ of_bits binary64 0x5fef_ffff_ffff_ffff
unfolding sqrt_of floor_root root_in mag L of_bits round size
of_largest = refl

-- -0
pub of_minus_zero : sqrt_of (of_bits binary64 0x8000_0000_0000_0000) ≡ of_bits binary64 0x8000_0000_0000_0000
unfolding sqrt_of floor_root root_in mag L of_bits round size
of_minus_zero = refl
