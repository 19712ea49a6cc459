-- `model::stored::write_shape` meets its contract: the word is the determinant of the F that was written.
use Rattle.std.proofs.Common.{rules}
use Rattle.plasticity.proofs.Parts.{state_parts}
use Rattle.one_record.proofs.RecordLaws.{shape_length}
use Rattle.one_record.proofs.stored.write_shape.Goals as goal

pub store_rows-requires : goal.store_rows-requires
store_rows-requires c = (search rules, (state_parts c.args.s c.requires.1.1).0)

pub store_row-requires : goal.store_row-requires
store_row-requires c = (search rules, (state_parts c.args.s c.requires.1.1).1)

pub shape_of-r : goal.shape_of-r
shape_of-r c =
    let a = c.args in
    simp (c.store_row.ensures, c.store_rows.ensures) (shape_length a.r.now a.s _)

pub returns : goal.returns
returns c = simp (c.store_row.ensures, c.store_rows.ensures, c.requires.1.0)
