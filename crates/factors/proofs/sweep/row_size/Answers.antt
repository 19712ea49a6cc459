-- `factors::sweep::row_size` meets its contract. Assumes nothing.
use Rattle.factors.specs.Sweeps.{least_of}
use Rattle.factors.proofs.sweep.row_size.Goals as goal

pub returns : goal.returns
unfolding least_of
returns c =
    simp (c.size-3.ensures, c.size-2.ensures, c.size.ensures)
