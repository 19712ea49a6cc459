-- `factors::sweep::factors_of` meets its contract. Assumes nothing.
use Rattle.factors.specs.Sweeps.{factors_of}
use Rattle.factors.proofs.sweep.factors_of.Goals as goal

pub returns : goal.returns
unfolding factors_of
returns c =
    simp (c.size-3.ensures, c.size-2.ensures, c.size.ensures, c.to_rows-u.ensures, c.transpose.ensures, c.signed_row-3.ensures, c.signed_row-2.ensures, c.signed_row.ensures, c.worked-w.ensures)
