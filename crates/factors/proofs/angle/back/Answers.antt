-- `factors::angle::back` meets its contract. Assumes nothing.
use mathlib.Core.Path.{refl}
use Rattle.factors.specs.Turns.{back_of}
use Rattle.factors.proofs.angle.back.Goals as goal

pub returns : goal.returns
unfolding back_of
returns c =
    refl
