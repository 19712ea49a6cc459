-- `factors::angle::doubled` meets its contract. Assumes nothing.
use mathlib.Core.Path.{refl}
use Rattle.factors.specs.Turns.{doubled_of}
use Rattle.factors.proofs.angle.doubled.Goals as goal

pub returns : goal.returns
unfolding doubled_of
returns c =
    refl
