-- `reader::records` meets its contract: one record more is read where those before it end.
use Rattle.std.proofs.Common.{◌+◌, ◌*◌, arith, take, drop, length-take, length-drop}
use native.Mathlib.Nat.{add-sub_cancel_left}
use Rattle.record.specs.Layout.{floats}
use Rattle.sheet.specs.Records.{sheet_floats}
use Rattle.sheet.proofs.Filling.{inside, next_record}
use Rattle.reader.proofs.Moving.{one_record_lem}
use Rattle.reader.proofs.records.Goals as goal

pub loop-i-preserved : goal.loop-i-preserved
loop-i-preserved c =
    let a = c.args in
    let q = c.requires in
    let l = c.loop-i in
    let h = inside a.model a.count a.at a.s.now a.room.now q.1 q.2 l.i c.loop-i-test.true in
    let o = one_record_lem a.model a.s.now (take floats (drop (l.i * floats) l.room)) (a.at + l.i * (sheet_floats a.model * 8)) q.0 (simp (length-take, length-drop) (omega arith)) h in
    let n = next_record a.model a.count a.at a.s.now a.room.now q.1 q.2 l.i l.room c.loop-i-test.true l.invariant.1 in
    let r = c.record_from-p.ensures in
    let k = add-sub_cancel_left (l.i * floats) floats in
    (simp (c.moved-next.ensures, r.0, k, l.invariant.0, o.0) (omega arith), simp (r.1, k, l.invariant.0, o.1) n)
