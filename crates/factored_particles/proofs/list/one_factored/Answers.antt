-- `factored_particles::list::one_factored` meets its contract: what its calls ensure, on each path.
use Prim.Native.Nat.{◌*◌}
use native.Mathlib.Nat.{add-sub_cancel_left}
use Rattle.record.specs.Layout.{floats}
use Rattle.std.proofs.Common.{rules}
use Rattle.factored_particles.proofs.StepLaws.{own_amount}
use Rattle.factored_particles.proofs.list.one_factored.Goals as goal

pub write_answer-requires : goal.write_answer-requires
write_answer-requires c =
    let a = c.args in
    (search rules, rw c.take_step-d.ensures.outcome (own_amount a.alone a.q a.j _))

pub returns : goal.returns
returns c =
    let st = c.take_step-d.ensures in
    let i = c.args.i in
    let k = add-sub_cancel_left (i * floats) floats in
    record { outcome = simp (st.outcome, k); failed = simp (st.failed, k); «record» = simp (st.«record», k); answer = simp c.write_answer.ensures }
