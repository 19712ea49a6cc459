-- `exponential::nearest` meets its contract. Assumes nothing.
use mathlib.Core.Path.{refl}
use Rattle.exponential.specs.Worked.{nearest_of}
use Rattle.exponential.proofs.nearest.Goals as goal

pub returns : goal.returns
unfolding nearest_of
returns c = refl
