-- `host::pasoletu_sin` meets its contract.
use Rattle.host.proofs.pasoletu_sin.Goals as goal

pub returns : goal.returns
returns c =
    let p = c.put.ensures in
    let e = c.sin.ensures.0 in
    rw e at p
