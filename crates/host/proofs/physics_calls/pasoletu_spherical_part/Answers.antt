-- `host::physics_calls::pasoletu_spherical_part` meets its contract.
use Rattle.host.specs.Calls.{spherical_part}
use Rattle.host.proofs.physics_calls.pasoletu_spherical_part.Goals as goal

pub returns : goal.returns
unfolding spherical_part
returns c =
    let p = c.put.ensures in
    let e0 = c.sized.ensures in
    let e1 = c.spherical_part.ensures in
    let e2 = c.matrix.ensures in
    rw (e0, e1, e2) at p
