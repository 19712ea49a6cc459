-- `numbers::bits::bits_of` answers `Ieee.to_bits binary64 x`.
use Rattle.numbers.proofs.Laws.{number_not_nan, other_bits}
use Rattle.numbers.proofs.bits.bits_of.Goals as goal

pub float_to_bits-result : goal.float_to_bits-result
float_to_bits-result c = number_not_nan c.args.x c.if-x.true

pub returns-else-x : goal.returns-else-x
returns-else-x c = other_bits c.args.x c.if-x.false
