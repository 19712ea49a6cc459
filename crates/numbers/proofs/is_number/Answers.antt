-- `numbers::is_number` answers `is_number x`.
use Rattle.numbers.proofs.Laws.{eq_self}
use Rattle.numbers.proofs.is_number.Goals as goal

pub returns : goal.returns
returns c = eq_self c.args.x
