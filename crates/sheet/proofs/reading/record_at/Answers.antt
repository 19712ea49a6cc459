-- `sheet::reading::record_at` meets its contract: each return is a case of `record_at` and `room_at`.
use native.Mathlib.Omega.{arith}
use Rattle.sheet.proofs.RecordLaws.{floats_most}
use Rattle.sheet.proofs.Rooms.{other_size, other_model, record_late, record_short, record_read}
use Rattle.std.proofs.Common.{rules}
use Rattle.sheet.proofs.reading.record_at.Goals as goal

pub returns-then-room-ne-FLOATS : goal.returns-then-room-ne-FLOATS
returns-then-room-ne-FLOATS c = other_size _ _ _ _ c.if-room-ne-FLOATS.true

pub returns-then-model-gt-LAST : goal.returns-then-model-gt-LAST
returns-then-model-gt-LAST c = other_model _ _ _ _ c.if-room-ne-FLOATS.false c.if-model-gt-LAST.true

pub overflow_mul-wanted : goal.overflow_mul-wanted
overflow_mul-wanted c = let m = floats_most c.args.model in rw c.floats_of-wanted.ensures (omega arith)

pub returns-then-s-at : goal.returns-then-s-at
returns-then-s-at c = record_late _ _ _ _ c.if-room-ne-FLOATS.false c.if-model-gt-LAST.false c.if-s-at.true

pub returns-then-s-at-2 : goal.returns-then-s-at-2
returns-then-s-at-2 c = record_short _ _ _ _ c.if-room-ne-FLOATS.false c.if-model-gt-LAST.false (rw c.floats_of-wanted.ensures at c.if-s-at-2.true)

pub fill_record-requires : goal.fill_record-requires
fill_record-requires c =
    let l = rw c.floats_of-wanted.ensures at c.if-s-at-2.false in
    let k = c.if-s-at.false in
    (omega arith, c.if-room-ne-FLOATS.false)

pub overflow_add-result : goal.overflow_add-result
overflow_add-result c = let m = floats_most c.args.model in rw c.floats_of-wanted.ensures (search rules)

pub returns : goal.returns
returns c =
    let r = record_read _ _ _ _ c.if-room-ne-FLOATS.false c.if-model-gt-LAST.false _ (rw c.floats_of-wanted.ensures at c.if-s-at-2.false) c.fill_record.ensures in
    rw c.floats_of-wanted.ensures r
