-- `particles::fill::all` meets its contract: a pass that fills in each record.
use mathlib.Core.Path.{◌≡◌}
use mathlib.Core.List.{◌++◌}
use Prim.Native.Nat.{◌*◌}
use lib.ListN.{drop}
use Rattle.record.specs.Layout.{floats}
use Rattle.particles.specs.Pass.{worked}
use Rattle.particles.specs.Fill.{fill_law}
use Rattle.particles.proofs.fill.all.Given as goal

abbrev pub invariant-loop-i : goal.invariant-loop-i
invariant-loop-i l = l.xs ≡ worked fill_law l.initial.xs l.i ++ drop (l.i * floats) l.initial.xs
