use Rattle.std.proofs.Common.{◌≡◌, refl}
use lib.Ieee as Ieee
use lib.Ieee.{binary64, of_bits}
use Rattle.numbers.specs.Power.{powi_of, halvings}

-- 0.5 to the power that 4,294,967,295 means, -1, is 2
pub half_inverse : powi_of (of_bits binary64 0x3fe0_0000_0000_0000) 4294967295 ≡ of_bits binary64 0x4000_0000_0000_0000
unfolding powi_of halvings Ieee.mul Ieee.div of_bits
half_inverse = refl

-- 1.0000001 ^ 1000003
pub many : powi_of (of_bits binary64 0x3ff0_0000_1ad7_f29b) 1000003 ≡ of_bits binary64 0x3ff1_aec8_0ae2_4fea
unfolding powi_of halvings Ieee.mul Ieee.div of_bits
many = refl
