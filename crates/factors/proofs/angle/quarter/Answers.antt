-- `factors::angle::quarter` meets its contract. Assumes nothing.
use mathlib.Core.Path.{refl}
use Rattle.factors.specs.Turns.{quarter_of}
use Rattle.factors.proofs.angle.quarter.Goals as goal

pub returns : goal.returns
unfolding quarter_of
returns c =
    refl
