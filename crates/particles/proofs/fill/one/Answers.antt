-- `particles::fill::one` meets its contract: what its calls ensure, on each path.
use Prim.Native.Nat.{◌*◌}
use native.Mathlib.Nat.{add-sub_cancel_left}
use Rattle.record.specs.Layout.{floats}
use Rattle.particles.proofs.fill.one.Goals as goal

pub returns : goal.returns
returns c =
    let i = c.args.i in
    let k = add-sub_cancel_left (i * floats) floats in
    simp (c.fill.ensures, k)
