-- `sheet::records::fill_record` meets its contract: the floats read, and the determinant of the F among them in the last place.
use native.Mathlib.Omega.{arith}
use Rattle.sheet.proofs.RecordLaws.{floats_most}
use Rattle.sheet.proofs.Filling.{read_bare, read_whole}
use Rattle.sheet.proofs.records.fill_record.Goals as goal

pub fill-requires : goal.fill-requires
fill-requires c =
    let q = c.requires in
    let m = floats_most c.args.model in
    rw c.floats_of.ensures (q.0, omega (arith, q.1, m))

pub returns-then-whole : goal.returns-then-whole
returns-then-whole c =
    let t = rw c.whole.ensures at c.if-whole.true in
    read_whole _ _ _ c.requires.1 _ (rw c.floats_of.ensures at c.fill.ensures) t

pub returns : goal.returns
returns c =
    let t = rw c.whole.ensures at c.if-whole.false in
    read_bare _ _ _ c.requires.1 _ (rw c.floats_of.ensures at c.fill.ensures) t _ c.determinant.ensures
