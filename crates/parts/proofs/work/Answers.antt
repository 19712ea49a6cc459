-- `parts::work` meets its contract: record k and its answers in their places.
use Prim.Native.Nat.{◌*◌}
use native.Mathlib.Nat.{add-sub_cancel_left}
use native.Mathlib.Omega.{arith}
use Rattle.record.specs.Layout.{floats}
use Rattle.particles.specs.Pass.{record_at}
use Rattle.parts.specs.Parts.{worked_by}
use Rattle.parts.proofs.OneRecord.{answer_placed}
use Rattle.std.proofs.Common.{rules}
use Rattle.parts.proofs.work.Goals as goal

pub work_one-requires : goal.work_one-requires
work_one-requires c = let q = c.requires in (search rules, search rules, q.2)

pub returns : goal.returns
returns c =
    let a = c.args in
    let q = c.requires in
    let e = c.work_one.ensures in
    let i = add-sub_cancel_left (a.k * floats) floats in
    let j = add-sub_cancel_left (a.k * 2) 2 in
    record { records_after = rw (e.r_after, i); answers_after = rw (e.out_after, i, j) (answer_placed a.answers.now a.k (worked_by a.h a.bytes.now (record_at a.records.now a.k)).outcome (omega arith)) }
