-- `host::monaghan::pasoletu_monaghan_pressure` meets its contract.
use Rattle.host.proofs.monaghan.pasoletu_monaghan_pressure.Goals as goal

pub returns : goal.returns
returns c =
    let p = c.put.ensures in
    let e0 = c.pressure.ensures in
    let e1 = c.eos-law.ensures in
    rw (e0, e1) at p
