-- `host::elasticity::pasoletu_corotated_pos_energy` meets its contract.
use Rattle.host.specs.Calls.{corotated_pos_energy}
use Rattle.host.proofs.elasticity.pasoletu_corotated_pos_energy.Goals as goal

pub returns : goal.returns
unfolding corotated_pos_energy
returns c =
    let p = c.put.ensures in
    let e0 = c.sized.ensures in
    let e1 = c.flagged.ensures in
    let e2 = c.word.ensures in
    let e3 = c.pos_energy-a.ensures in
    let e4 = c.row.ensures in
    let e5 = c.matrix.ensures in
    let e6 = c.corotated-p.ensures in
    rw (e0, e1, e2, e3, e4, e5, e6) at p
