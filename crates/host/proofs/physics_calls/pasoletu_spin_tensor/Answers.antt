-- `host::physics_calls::pasoletu_spin_tensor` meets its contract.
use Rattle.host.specs.Calls.{spin_tensor}
use Rattle.host.proofs.physics_calls.pasoletu_spin_tensor.Goals as goal

pub returns : goal.returns
unfolding spin_tensor
returns c =
    let p = c.put_matrix.ensures in
    let e0 = c.sized_matrix.ensures in
    let e1 = c.spin_tensor.ensures in
    let e2 = c.matrix.ensures in
    rw (e0, e1, e2) at p
