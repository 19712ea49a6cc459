-- `flat_particles::list::one` meets its contract: what its calls ensure.
use Prim.Native.Nat.{◌*◌}
use native.Mathlib.Nat.{add-sub_cancel_left}
use Rattle.flat_particles.specs.Layout.{floats}
use Rattle.flat_particles.proofs.list.one.Goals as goal

pub returns : goal.returns
returns c =
    let st = c.step-o.ensures in
    let i = c.args.i in
    let k = add-sub_cancel_left (i * floats) floats in
    record { outcome = simp (st.0, k); «record» = simp (st.1, k); answer = simp c.write_answer.ensures }
