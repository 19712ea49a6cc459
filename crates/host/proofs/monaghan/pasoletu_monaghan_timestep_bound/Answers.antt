-- `host::monaghan::pasoletu_monaghan_timestep_bound` meets its contract.
use Rattle.host.specs.Calls.{monaghan_timestep_bound}
use Rattle.host.proofs.monaghan.pasoletu_monaghan_timestep_bound.Goals as goal

pub returns : goal.returns
unfolding monaghan_timestep_bound
returns c =
    let p = c.put.ensures in
    let e0 = c.sized.ensures in
    let e1 = c.timestep_bound-a.ensures in
    let e2 = c.row.ensures in
    let e3 = c.eos-law.ensures in
    rw (e0, e1, e2, e3) at p
