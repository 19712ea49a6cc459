-- `logarithm::part` meets its contract. Assumes nothing.
use mathlib.Core.Path.{◌≡◌, refl}
use lib.Ieee as Ieee
use lib.Ieee.{binary64, of_bits}
use Rattle.logarithm.specs.Worked.{part_of}
use Rattle.logarithm.proofs.part.Goals as goal

half : Ieee.neg (of_bits binary64 0x3fe0_0000_0000_0000) ≡ of_bits binary64 0xbfe0_0000_0000_0000
unfolding Ieee.neg of_bits
half = refl

fourth : Ieee.neg (of_bits binary64 0x3fd0_0000_0000_0000) ≡ of_bits binary64 0xbfd0_0000_0000_0000
unfolding Ieee.neg of_bits
fourth = refl

pub returns : goal.returns
unfolding part_of
returns c = rw (half, fourth)
