-- `host::pasoletu_ln` meets its contract.
use Rattle.host.proofs.pasoletu_ln.Goals as goal

pub returns : goal.returns
returns c =
    let p = c.put.ensures in
    let e = c.ln.ensures.0 in
    rw e at p
