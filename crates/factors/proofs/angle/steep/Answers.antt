-- `factors::angle::steep` meets its contract. Assumes nothing.
use Rattle.factors.specs.Turns.{steep_of}
use Rattle.factors.proofs.angle.steep.Goals as goal

pub returns-then-r : goal.returns-then-r
unfolding steep_of
returns-then-r c =
    let t0 = c.if-r.true in
    simp (t0)

pub returns-else-r : goal.returns-else-r
unfolding steep_of
returns-else-r c =
    let t0 = c.if-r.false in
    simp (t0)
