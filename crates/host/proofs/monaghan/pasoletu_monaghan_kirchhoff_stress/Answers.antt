-- `host::monaghan::pasoletu_monaghan_kirchhoff_stress` meets its contract.
use Rattle.host.specs.Calls.{monaghan_kirchhoff_stress}
use Rattle.host.proofs.monaghan.pasoletu_monaghan_kirchhoff_stress.Goals as goal

pub returns : goal.returns
unfolding monaghan_kirchhoff_stress
returns c =
    let p = c.put_matrix.ensures in
    let e0 = c.sized_matrix.ensures in
    let e1 = c.kirchhoff_stress-a.ensures in
    let e2 = c.matrix.ensures in
    let e3 = c.eos-law.ensures in
    rw (e0, e1, e2, e3) at p
