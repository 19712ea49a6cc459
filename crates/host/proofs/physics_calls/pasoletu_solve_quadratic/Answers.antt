-- `host::physics_calls::pasoletu_solve_quadratic` meets its contract.
use Rattle.host.proofs.physics_calls.pasoletu_solve_quadratic.Goals as goal

pub returns : goal.returns
returns c =
    let p = c.put_pair.ensures in
    let e0 = c.solve_quadratic.ensures in
    rw e0 at p
