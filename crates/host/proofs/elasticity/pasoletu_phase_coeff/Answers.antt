-- `host::elasticity::pasoletu_phase_coeff` meets its contract.
use Rattle.host.proofs.elasticity.pasoletu_phase_coeff.Goals as goal

pub returns : goal.returns
returns c =
    let p = c.put.ensures in
    let e0 = c.phase_coeff.ensures in
    rw e0 at p
