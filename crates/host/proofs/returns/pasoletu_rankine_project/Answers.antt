-- `host::returns::pasoletu_rankine_project` meets its contract.
use Rattle.host.specs.Calls.{rankine_project}
use Rattle.host.proofs.returns.pasoletu_rankine_project.Goals as goal

pub returns : goal.returns
unfolding rankine_project
returns c =
    let p = c.put_vector.ensures in
    let e0 = c.sized_vector.ensures in
    let e1 = c.project.ensures in
    let e2 = c.row.ensures in
    let e3 = c.rankine-a.ensures in
    rw (e0, e1, e2, e3) at p
