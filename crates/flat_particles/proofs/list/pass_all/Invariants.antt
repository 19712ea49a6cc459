-- `flat_particles::list::pass_all` meets its contract: what its calls ensure, on each path.
use mathlib.Core.Path.{◌≡◌}
use mathlib.Core.List.{◌++◌}
use Prim.Native.Nat.{◌*◌}
use lib.ListN.{drop}
use Rattle.flat_particles.specs.Layout.{floats}
use Rattle.flat_particles.specs.Law.{flat_law}
use Rattle.flat_particles.specs.Pass.{three_of, worked_over, answers_over, counts_over}
use Rattle.flat_particles.proofs.list.pass_all.Given as goal

abbrev pub invariant-loop-i : goal.invariant-loop-i
invariant-loop-i l =
    (l.c ≡ three_of (counts_over floats (flat_law l.m) l.initial.xs l.i)) × (l.xs ≡ worked_over floats (flat_law l.m) l.initial.xs l.i ++ drop (l.i * floats) l.initial.xs) × (l.out ≡ answers_over floats (flat_law l.m) l.initial.xs l.i ++ drop (l.i * 2) l.initial.out)
