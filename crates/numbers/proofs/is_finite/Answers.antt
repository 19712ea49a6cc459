-- `numbers::is_finite` answers `finite x`.
use lib.Ieee.{div, of_bits, neg}
use Rattle.numbers.proofs.Laws.{within}
use Rattle.numbers.proofs.is_finite.Goals as goal

pub returns : goal.returns
unfolding div of_bits neg
returns c = within c.args.x
