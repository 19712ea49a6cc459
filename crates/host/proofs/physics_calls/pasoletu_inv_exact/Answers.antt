-- `host::physics_calls::pasoletu_inv_exact` meets its contract.
use Rattle.host.proofs.physics_calls.pasoletu_inv_exact.Goals as goal

pub returns : goal.returns
returns c =
    let p = c.put.ensures in
    let e0 = c.inv_exact.ensures in
    rw e0 at p
