-- `factored_particles::list::pass_all` meets its contract: what its calls ensure, on each path.
use mathlib.Core.Path.{◌≡◌}
use mathlib.Core.List.{◌++◌}
use Prim.Native.Nat.{◌*◌}
use lib.ListN.{drop}
use Rattle.record.specs.Layout.{floats}
use Rattle.factored_particles.specs.Step.{own_law}
use Rattle.particles.specs.Pass.{worked, answers, counts}
use Rattle.factored_particles.proofs.list.pass_all.Given as goal

abbrev pub invariant-loop-i : goal.invariant-loop-i
invariant-loop-i l =
    (l.c ≡ counts (own_law l.alone l.q l.j) l.initial.xs l.i) × (l.xs ≡ worked (own_law l.alone l.q l.j) l.initial.xs l.i ++ drop (l.i * floats) l.initial.xs) × (l.out ≡ answers (own_law l.alone l.q l.j) l.initial.xs l.i ++ drop (l.i * 2) l.initial.out)
