-- `record::store_row` meets its contract: what its calls ensure, on each path.
use lib.ListN.{length-set}
use native.Mathlib.Omega.{arith}
use Rattle.record.proofs.Parts.{entries_parts}
use Rattle.std.proofs.Common.{rules}
use Rattle.record.proofs.store_row.Goals as goal

pub finite_bits-requires : goal.finite_bits-requires
finite_bits-requires c = (entries_parts c.args.v (search rules) c.requires.1).0

pub finite_bits-requires-2 : goal.finite_bits-requires-2
finite_bits-requires-2 c = (entries_parts c.args.v (search rules) c.requires.1).1

pub bounds-r-at-2 : goal.bounds-r-at-2
bounds-r-at-2 c = simp length-set (omega arith)

pub finite_bits-requires-3 : goal.finite_bits-requires-3
finite_bits-requires-3 c = (entries_parts c.args.v (search rules) c.requires.1).2

pub bounds-r-at-3 : goal.bounds-r-at-3
bounds-r-at-3 c = simp length-set (omega arith)

pub returns : goal.returns
returns c =
    simp (c.finite_bits-3.ensures, c.finite_bits-2.ensures, c.finite_bits.ensures)
