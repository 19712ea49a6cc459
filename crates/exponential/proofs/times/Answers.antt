-- `exponential::times` meets its contract. Assumes nothing.
use mathlib.Core.Path.{refl}
use Rattle.exponential.specs.Worked.{times_of}
use Rattle.exponential.proofs.times.Goals as goal

pub returns : goal.returns
unfolding times_of
returns c = refl
