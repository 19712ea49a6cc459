-- `factors::sweep::up` meets its contract. Assumes nothing.
use mathlib.Core.Path.{refl}
use Rattle.factors.specs.Sweeps.{up_of}
use Rattle.factors.proofs.sweep.up.Goals as goal

pub returns : goal.returns
unfolding up_of
returns c =
    refl
