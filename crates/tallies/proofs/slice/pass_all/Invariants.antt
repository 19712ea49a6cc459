-- `tallies::slice::pass_all` meets its contract: record by record; the first i are worked, answered and counted.
use Rattle.tallies.proofs.Passing.{State}
use Rattle.tallies.proofs.slice.pass_all.Given as goal

abbrev pub invariant-loop-i : goal.invariant-loop-i
invariant-loop-i l = State l.fn.s l.initial.xs l.initial.out l.zones l.initial.ts l.i l.xs l.out l.ts
