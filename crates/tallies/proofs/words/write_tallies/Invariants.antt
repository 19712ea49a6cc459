-- `tallies::words::write_tallies` meets its contract: tally by tally.
use mathlib.Core.Path.{◌≡◌}
use mathlib.Core.List.{◌++◌}
use Prim.Native.Nat.{◌*◌}
use lib.ListN.{drop}
use Rattle.tallies.specs.Words.{fields, words_in}
use Rattle.tallies.proofs.words.write_tallies.Given as goal

abbrev pub invariant-loop-z : goal.invariant-loop-z
invariant-loop-z l = l.ws ≡ words_in l.ts l.z ++ drop (l.z * fields) l.initial.ws
