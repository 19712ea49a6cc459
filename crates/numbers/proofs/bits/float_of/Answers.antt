-- `numbers::bits::float_of` answers `Ieee.of_bits binary64 n`.
use Rattle.numbers.proofs.Laws.{above_inf, not_above_inf, zero_over_zero}
use Rattle.std.proofs.Common.{sym, ◌∙◌}
use Rattle.numbers.proofs.bits.float_of.Goals as goal

pub float_from_bits-result : goal.float_from_bits-result
float_from_bits-result c = not_above_inf c.args.n c.if-n-gt9218868437227405312.false

pub returns-then-n-gt9218868437227405312 : goal.returns-then-n-gt9218868437227405312
returns-then-n-gt9218868437227405312 c = zero_over_zero ∙ sym (above_inf c.args.n c.if-n-gt9218868437227405312.true)
