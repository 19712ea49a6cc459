-- `record::finite::read_mat` meets its contract: what its calls ensure, on each path.
use Rattle.record.proofs.Parts.{mat_parts}
use native.Mathlib.Omega.{arith}
use Rattle.record.proofs.finite.read_mat.Goals as goal

pub read_row-requires : goal.read_row-requires
read_row-requires c = let h = c.requires.0 in (omega arith, (mat_parts c.args.r.now c.args.at c.requires.1).0)

pub read_row-requires-2 : goal.read_row-requires-2
read_row-requires-2 c = let h = c.requires.0 in (omega arith, (mat_parts c.args.r.now c.args.at c.requires.1).1)

pub read_row-requires-3 : goal.read_row-requires-3
read_row-requires-3 c = let h = c.requires.0 in (omega arith, (mat_parts c.args.r.now c.args.at c.requires.1).2)
