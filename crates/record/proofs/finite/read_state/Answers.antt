-- `record::finite::read_state` meets its contract: what its calls ensure, on each path.
use Rattle.record.proofs.Parts.{state_parts, scalars_parts}
use native.Mathlib.Omega.{arith}
use Rattle.record.proofs.finite.read_state.Goals as goal

pub read_rows-requires : goal.read_rows-requires
read_rows-requires c = let h = c.requires.0 in (omega arith, (state_parts c.args.r.now c.requires.1).0)

pub read_row-requires : goal.read_row-requires
read_row-requires c = let h = c.requires.0 in (omega arith, (state_parts c.args.r.now c.requires.1).1)

pub read_word-requires : goal.read_word-requires
read_word-requires c = (scalars_parts c.args.r.now c.requires.1).0.0

pub read_word-requires-2 : goal.read_word-requires-2
read_word-requires-2 c = (scalars_parts c.args.r.now c.requires.1).0.1

pub read_word-requires-3 : goal.read_word-requires-3
read_word-requires-3 c = (scalars_parts c.args.r.now c.requires.1).0.2

pub read_word-requires-4 : goal.read_word-requires-4
read_word-requires-4 c = (scalars_parts c.args.r.now c.requires.1).1.0

pub read_word-requires-5 : goal.read_word-requires-5
read_word-requires-5 c = (scalars_parts c.args.r.now c.requires.1).1.1

pub read_word-requires-6 : goal.read_word-requires-6
read_word-requires-6 c = (scalars_parts c.args.r.now c.requires.1).1.2

pub returns : goal.returns
returns c =
    simp (c.read_word-6.ensures, c.read_word-5.ensures, c.read_word-4.ensures, c.read_word-3.ensures, c.read_word-2.ensures, c.read_word.ensures, c.read_row.ensures, c.read_rows.ensures)
