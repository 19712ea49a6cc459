-- `host::pasoletu_inv_cbrt` meets its contract.
use Rattle.host.proofs.pasoletu_inv_cbrt.Goals as goal

pub returns : goal.returns
returns c =
    let p = c.put.ensures in
    let e = c.inv_cbrt.ensures.0 in
    rw e at p
