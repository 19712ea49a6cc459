-- `factors::sweep::down` meets its contract. Assumes nothing.
use mathlib.Core.Path.{refl}
use Rattle.factors.specs.Sweeps.{down_of}
use Rattle.factors.proofs.sweep.down.Goals as goal

pub returns : goal.returns
unfolding down_of
returns c =
    refl
