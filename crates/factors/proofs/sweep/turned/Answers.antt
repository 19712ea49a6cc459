-- `factors::sweep::turned` meets its contract. Assumes nothing.
use Rattle.factors.specs.Sweeps.{turned_of}
use Rattle.factors.proofs.sweep.turned.Goals as goal

pub returns : goal.returns
unfolding turned_of
returns c =
    simp (c.down-r1.ensures, c.up-r0.ensures)
