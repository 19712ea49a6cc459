-- `host_passes::friction::pasoletu_nacc_friction` meets its contract.
use Rattle.host_passes.proofs.friction.pasoletu_nacc_friction.Goals as goal

pub returns : goal.returns
returns c =
    let p = c.put.ensures in
    let e = c.friction_in.ensures in
    rw e at p
