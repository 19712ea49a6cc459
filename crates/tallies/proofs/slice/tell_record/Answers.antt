-- `tallies::slice::tell_record` meets its contract: what its calls ensure.
use Prim.Native.Nat.{◌*◌}
use native.Mathlib.Nat.{add-sub_cancel_left}
use Rattle.std.proofs.Common.{rules}
use Rattle.record.specs.Layout.{floats}
use Rattle.particles.proofs.ReadiedLaws.{ready_amount}
use Rattle.tallies.proofs.slice.tell_record.Goals as goal

pub write_answer-requires : goal.write_answer-requires
write_answer-requires c =
    let t = c.args.t in
    (search rules, rw c.take_step-d.ensures.outcome (ready_amount t.ready t.judge _))

pub returns : goal.returns
returns c =
    let st = c.take_step-d.ensures in
    let i = c.args.i in
    let k = add-sub_cancel_left (i * floats) floats in
    (simp (c.tell.ensures, st.outcome, st.failed, k), simp (st.«record», k), simp (c.write_answer.ensures, st.outcome, k))
