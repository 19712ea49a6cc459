-- `factors::sweep::columns` meets its contract. Assumes nothing.
use Rattle.factors.specs.Sweeps.{columns_of}
use Rattle.factors.proofs.sweep.columns.Goals as goal

pub returns : goal.returns
unfolding columns_of
returns c =
    simp (c.mixed-r2.ensures, c.mixed-r1.ensures, c.mixed-r0.ensures)
