-- `factors::sweep::next` meets its contract. Assumes nothing.
use Rattle.factors.specs.Sweeps.{next_of}
use Rattle.factors.proofs.sweep.next.Goals as goal

pub returns : goal.returns
unfolding next_of
returns c =
    simp (c.cycle-v.ensures, c.cycle-u.ensures, c.cycle_row-r2.ensures, c.cycle_row-r1.ensures, c.cycle_row-r0.ensures)
