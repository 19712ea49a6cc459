-- `host::physics_calls::pasoletu_deviatoric_part` meets its contract.
use Rattle.host.specs.Calls.{deviatoric_part}
use Rattle.host.proofs.physics_calls.pasoletu_deviatoric_part.Goals as goal

pub returns : goal.returns
unfolding deviatoric_part
returns c =
    let p = c.put_matrix.ensures in
    let e0 = c.sized_matrix.ensures in
    let e1 = c.deviatoric_part.ensures in
    let e2 = c.matrix.ensures in
    rw (e0, e1, e2) at p
