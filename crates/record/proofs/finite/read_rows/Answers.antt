-- `record::finite::read_rows` meets its contract: what its calls ensure, on each path.
use Rattle.record.proofs.Parts.{mat_parts}
use native.Mathlib.Omega.{arith}
use Rattle.record.proofs.finite.read_rows.Goals as goal

pub read_row-r0-requires : goal.read_row-r0-requires
read_row-r0-requires c = let h = c.requires.0 in (omega arith, (mat_parts c.args.r.now c.args.at c.requires.1).0)

pub read_row-r1-requires : goal.read_row-r1-requires
read_row-r1-requires c = let h = c.requires.0 in (omega arith, (mat_parts c.args.r.now c.args.at c.requires.1).1)

pub read_row-r2-requires : goal.read_row-r2-requires
read_row-r2-requires c = let h = c.requires.0 in (omega arith, (mat_parts c.args.r.now c.args.at c.requires.1).2)

pub returns : goal.returns
returns c =
    simp (c.read_row-r2.ensures, c.read_row-r1.ensures, c.read_row-r0.ensures)
