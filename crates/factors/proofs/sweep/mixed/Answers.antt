-- `factors::sweep::mixed` meets its contract. Assumes nothing.
use mathlib.Core.Path.{refl}
use Rattle.factors.specs.Sweeps.{mixed_of}
use Rattle.factors.proofs.sweep.mixed.Goals as goal

pub returns : goal.returns
unfolding mixed_of
returns c =
    refl
