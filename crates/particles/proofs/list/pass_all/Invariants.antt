-- `particles::list::pass_all` meets its contract: what its calls ensure, on each path.
use mathlib.Core.Path.{◌≡◌}
use mathlib.Core.List.{◌++◌}
use Prim.Native.Nat.{◌*◌}
use lib.ListN.{drop}
use Rattle.record.specs.Layout.{floats}
use Rattle.one_record.specs.ReadyRecord.{ready_law}
use Rattle.particles.specs.Pass.{worked, answers, counts}
use Rattle.particles.proofs.list.pass_all.Given as goal

abbrev pub invariant-loop-i : goal.invariant-loop-i
invariant-loop-i l =
    (l.c ≡ counts (ready_law l.q l.j) l.initial.xs l.i) × (l.xs ≡ worked (ready_law l.q l.j) l.initial.xs l.i ++ drop (l.i * floats) l.initial.xs) × (l.out ≡ answers (ready_law l.q l.j) l.initial.xs l.i ++ drop (l.i * 2) l.initial.out)
