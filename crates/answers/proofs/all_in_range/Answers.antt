-- `answers::all_in_range` answers `all_in_range low high a b c`.
use Rattle.answers.proofs.all_in_range.Goals as goal

pub returns : goal.returns
returns c = rw (c.in_range-3.ensures, c.in_range-2.ensures, c.in_range.ensures)
