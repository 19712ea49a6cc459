-- `host::physics_calls::pasoletu_strain_rate` meets its contract.
use Rattle.host.specs.Calls.{strain_rate}
use Rattle.host.proofs.physics_calls.pasoletu_strain_rate.Goals as goal

pub returns : goal.returns
unfolding strain_rate
returns c =
    let p = c.put_matrix.ensures in
    let e0 = c.sized_matrix.ensures in
    let e1 = c.strain_rate.ensures in
    let e2 = c.matrix.ensures in
    rw (e0, e1, e2) at p
