-- `factors::angle::after` meets its contract. Assumes nothing.
use mathlib.Core.Path.{refl}
use Rattle.factors.specs.Turns.{after_of}
use Rattle.factors.proofs.angle.after.Goals as goal

pub returns : goal.returns
unfolding after_of
returns c =
    refl
