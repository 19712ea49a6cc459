-- `exponential::series` meets its contract. Assumes nothing.
use mathlib.Core.Path.{refl}
use Rattle.exponential.specs.Worked.{series_of}
use Rattle.exponential.proofs.series.Goals as goal

pub returns : goal.returns
unfolding series_of
returns c = refl
