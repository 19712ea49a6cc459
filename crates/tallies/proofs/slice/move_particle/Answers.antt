-- `tallies::slice::move_particle` meets its contract: the plan's refusal and zones, and the tallies as it has them.
use Rattle.tallies.proofs.Settling.{move_settled}
use Rattle.tallies.proofs.slice.move_particle.Goals as goal

pub returns : goal.returns
returns c =
    let a = c.args in
    let q = c.to_move-q in
    let e = q.ensures in
    (e.0, e.1, move_settled q.result a.particles a.p a.z a.zones.now q.new.zones a.ts.now c.settle.new.ts e.1 e.2 c.settle.ensures.1)
