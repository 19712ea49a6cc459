-- `host::pasoletu_sinh` meets its contract.
use Rattle.host.proofs.pasoletu_sinh.Goals as goal

pub returns : goal.returns
returns c =
    let p = c.put.ensures in
    let e = c.sinh.ensures.0 in
    rw e at p
