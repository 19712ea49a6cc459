-- `sine::short` meets its contract. Assumes nothing.
use mathlib.Core.Path.{refl}
use Rattle.sine.specs.Sine.{short_of, horner_of}
use Rattle.sine.proofs.short.Goals as goal

pub returns : goal.returns
unfolding short_of horner_of
returns c = refl
