-- `host::returns::pasoletu_snow_clamp` meets its contract.
use Rattle.host.specs.Calls.{snow_clamp}
use Rattle.host.proofs.returns.pasoletu_snow_clamp.Goals as goal

pub returns : goal.returns
unfolding snow_clamp
returns c =
    let p = c.put_vector.ensures in
    let e0 = c.sized_vector.ensures in
    let e1 = c.vector.ensures in
    let e2 = c.project_deformation_gradient-v.ensures in
    let e3 = c.row.ensures in
    rw (e0, e1, e2, e3) at p
