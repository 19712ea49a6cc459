-- `particles::list::count_failed` meets its contract: what its calls ensure, on each path.
use Rattle.particles.proofs.list.count_failed.Goals as goal

pub returns-then-failed : goal.returns-then-failed
returns-then-failed c =
    let t0 = c.if-failed.true in
    simp (t0)

pub returns-else-failed : goal.returns-else-failed
returns-else-failed c =
    let t0 = c.if-failed.false in
    simp (t0)
