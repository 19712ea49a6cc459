-- `tallies::slice::clear` meets its contract: the plan's refusal, and the tallies as it has them.
use Rattle.tallies.proofs.Settling.{clear_settled}
use Rattle.tallies.proofs.slice.clear.Goals as goal

pub returns : goal.returns
returns c =
    let a = c.args in
    let p = c.to_clear-p in
    (p.ensures.0, clear_settled p.result a.particles a.zones.now a.ts.now c.settle.new.ts p.ensures.1 c.settle.ensures.1)
