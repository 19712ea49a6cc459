-- `square_root::digits::root` meets its contract. Assumes nothing.
use Rattle.std.proofs.Common.{◌*◌, ◌^◌}
use Rattle.square_root.proofs.Laws.{Turning}
use Rattle.square_root.proofs.digits.root.Given as goal

abbrev pub invariant-loop-s : goal.invariant-loop-s
invariant-loop-s l = Turning (l.n * 2 ^ 54) l.s

abbrev pub decreases-loop-s : goal.decreases-loop-s
decreases-loop-s l = l.s.step
