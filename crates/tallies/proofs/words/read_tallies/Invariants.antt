-- `tallies::words::read_tallies` meets its contract: tally by tally.
use mathlib.Core.Path.{◌≡◌}
use mathlib.Core.List.{◌++◌}
use lib.ListN.{drop}
use Rattle.tallies.specs.Words.{tallies_in}
use Rattle.tallies.proofs.words.read_tallies.Given as goal

abbrev pub invariant-loop-z : goal.invariant-loop-z
invariant-loop-z l = l.r ≡ tallies_in l.ws l.z ++ drop l.z l.initial.r
