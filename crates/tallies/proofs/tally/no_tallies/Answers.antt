-- `tallies::tally::no_tallies` meets its contract: one tally, 256 times.
use mathlib.Core.Path.{refl}
use Rattle.tallies.specs.Tallies.{spare}
use Rattle.tallies.proofs.tally.no_tallies.Goals as goal

pub returns : goal.returns
unfolding spare
returns c = refl
