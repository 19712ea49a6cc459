-- `factors::sweep::settled` meets its contract. Assumes nothing.
use Rattle.factors.specs.Sweeps.{settled_of}
use Rattle.factors.proofs.sweep.settled.Goals as goal

pub returns : goal.returns
unfolding settled_of
returns c =
    simp (c.tiny-6.ensures, c.tiny-5.ensures, c.tiny-4.ensures, c.tiny-3.ensures, c.tiny-2.ensures, c.tiny.ensures)
