-- `exponential::rest` meets its contract. Assumes nothing.
use mathlib.Core.Path.{refl}
use Rattle.exponential.specs.Worked.{rest_of}
use Rattle.exponential.proofs.rest.Goals as goal

pub returns : goal.returns
unfolding rest_of
returns c = refl
