-- `host::pasoletu_cbrt_squared` meets its contract.
use Rattle.host.proofs.pasoletu_cbrt_squared.Goals as goal

pub returns : goal.returns
returns c =
    let p = c.put.ensures in
    let e = c.cbrt_squared.ensures.0 in
    rw e at p
