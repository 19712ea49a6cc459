-- `host::physics_calls::pasoletu_bulk_modulus_from_lame` meets its contract.
use Rattle.host.proofs.physics_calls.pasoletu_bulk_modulus_from_lame.Goals as goal

pub returns : goal.returns
returns c =
    let p = c.put.ensures in
    let e0 = c.bulk_modulus_from_lame.ensures in
    rw e0 at p
