-- `factors::sweep::signed_row` meets its contract. Assumes nothing.
use Rattle.factors.specs.Sweeps.{signed_row_of}
use Rattle.factors.proofs.sweep.signed_row.Goals as goal

pub returns-then-x : goal.returns-then-x
unfolding signed_row_of
returns-then-x c =
    let t0 = c.if-x.true in
    simp (t0)

pub returns-else-x : goal.returns-else-x
unfolding signed_row_of
returns-else-x c =
    let t0 = c.if-x.false in
    simp (t0)
