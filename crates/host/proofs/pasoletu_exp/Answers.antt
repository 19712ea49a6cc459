-- `host::pasoletu_exp` meets its contract.
use Rattle.host.proofs.pasoletu_exp.Goals as goal

pub returns : goal.returns
returns c =
    let p = c.put.ensures in
    let e = c.exp.ensures.0 in
    rw e at p
