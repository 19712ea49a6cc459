-- `record::finite::read_row` meets its contract: what its calls ensure, on each path.
use Rattle.record.proofs.Parts.{row_parts}
use Rattle.record.proofs.finite.read_row.Goals as goal

pub read_word-requires : goal.read_word-requires
read_word-requires c = (row_parts c.args.r.now c.args.at c.requires.1).0

pub read_word-requires-2 : goal.read_word-requires-2
read_word-requires-2 c = (row_parts c.args.r.now c.args.at c.requires.1).1

pub read_word-requires-3 : goal.read_word-requires-3
read_word-requires-3 c = (row_parts c.args.r.now c.args.at c.requires.1).2
