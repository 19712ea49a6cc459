-- `reader::read` meets its contract: each return is a case of `read_of` and `room_of`.
use Rattle.sheet.proofs.Rooms.{odd, bad, narrow, good}
use Rattle.sheet.proofs.ReadFrom.{few, named_model, within}
use native.Mathlib.Omega.{arith}
use Rattle.reader.proofs.read.Goals as goal

pub returns-then-room-ne0 : goal.returns-then-room-ne0
returns-then-room-ne0 c = odd _ _ _ c.refused.ensures c.if-room-ne0.true

pub returns-then-h-ne0 : goal.returns-then-h-ne0
returns-then-h-ne0 c = bad _ _ _ c.header-h.ensures c.if-room-ne0.false c.if-h-ne0.true

pub overflow_mul-n : goal.overflow_mul-n
overflow_mul-n c =
    let l = few _ _ c.header-h.ensures c.if-h-ne0.false in
    omega arith

pub returns-then-room-n : goal.returns-then-room-n
returns-then-room-n c = narrow _ _ _ c.header-h.ensures c.if-room-ne0.false c.if-h-ne0.false _ c.refused-then-room-n.ensures c.if-room-n.true

pub records-requires : goal.records-requires
records-requires c =
    let e = c.header-h.ensures in
    let z = c.if-h-ne0.false in
    (named_model _ _ e z, within _ _ e z, c.if-room-n.false)

pub returns : goal.returns
returns c = good _ _ _ c.header-h.ensures c.if-room-ne0.false c.if-h-ne0.false _ c.if-room-n.false c.records.ensures
