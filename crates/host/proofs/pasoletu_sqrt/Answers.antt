-- `host::pasoletu_sqrt` meets its contract.
use Rattle.host.proofs.pasoletu_sqrt.Goals as goal

pub returns : goal.returns
returns c =
    let p = c.put.ensures in
    let e = c.sqrt.ensures.0 in
    rw e at p
