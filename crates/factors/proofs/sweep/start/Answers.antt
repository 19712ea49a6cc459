-- `factors::sweep::start` meets its contract. Assumes nothing.
use Rattle.factors.specs.Sweeps.{start_of}
use Rattle.factors.proofs.sweep.start.Goals as goal

pub returns : goal.returns
unfolding start_of
returns c =
    simp (c.row_size-3.ensures, c.row_size-2.ensures, c.row_size.ensures, c.to_rows-m.ensures)
