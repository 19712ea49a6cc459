-- The numbers that the laws' formulas name.
use Rattle.std.specs.Prelude.{from_bits, Float}
use Rattle.std.specs.Float.{binary64}

abbrev pub zero : Float
zero = from_bits binary64 0

abbrev pub one : Float
one = from_bits binary64 0x3ff0_0000_0000_0000

abbrev pub two : Float
two = from_bits binary64 0x4000_0000_0000_0000

abbrev pub three : Float
three = from_bits binary64 0x4008_0000_0000_0000

abbrev pub four : Float
four = from_bits binary64 0x4010_0000_0000_0000

abbrev pub half : Float
half = from_bits binary64 0x3fe0_0000_0000_0000
