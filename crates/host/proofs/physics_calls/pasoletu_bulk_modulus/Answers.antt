-- `host::physics_calls::pasoletu_bulk_modulus` meets its contract.
use Rattle.host.proofs.physics_calls.pasoletu_bulk_modulus.Goals as goal

pub returns : goal.returns
returns c =
    let p = c.put.ensures in
    let e0 = c.bulk_modulus.ensures in
    rw e0 at p
