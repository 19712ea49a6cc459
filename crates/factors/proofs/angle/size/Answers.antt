-- `factors::angle::size` meets its contract. Assumes nothing.
use Rattle.factors.specs.Turns.{size_of}
use Rattle.factors.proofs.angle.size.Goals as goal

pub returns-then-x : goal.returns-then-x
unfolding size_of
returns-then-x c =
    let t0 = c.if-x.true in
    simp (t0)

pub returns-else-x : goal.returns-else-x
unfolding size_of
returns-else-x c =
    let t0 = c.if-x.false in
    simp (t0)
