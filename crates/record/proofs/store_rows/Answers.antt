-- `record::store_rows` meets its contract: what its calls ensure, on each path.
use Rattle.record.proofs.Parts.{rows_parts}
use Rattle.std.proofs.Common.{rules}
use Rattle.record.proofs.store_rows.Goals as goal

pub store_row-requires : goal.store_row-requires
store_row-requires c = (search rules, (rows_parts c.args.m c.requires.1).0)

pub store_row-requires-2 : goal.store_row-requires-2
store_row-requires-2 c = (search rules, (rows_parts c.args.m c.requires.1).1)

pub store_row-requires-3 : goal.store_row-requires-3
store_row-requires-3 c = (search rules, (rows_parts c.args.m c.requires.1).2)

pub returns : goal.returns
returns c =
    simp (c.store_row-3.ensures, c.store_row-2.ensures, c.store_row.ensures)
