-- `factors::sweep::both` meets its contract. Assumes nothing.
use Rattle.factors.specs.Sweeps.{both_of}
use Rattle.factors.proofs.sweep.both.Goals as goal

pub returns : goal.returns
unfolding both_of
returns c =
    simp (c.turned-v.ensures, c.turned-u.ensures, c.columns-m.ensures, c.turned.ensures)
