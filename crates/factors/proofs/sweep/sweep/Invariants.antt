-- `factors::sweep::sweep` meets its contract. Assumes nothing.
use mathlib.Core.Path.{◌≡◌}
use Prim.Native.Nat.{◌-◌}
use Rattle.factors.specs.Sweeps.{times, pair_of}
use Rattle.factors.proofs.sweep.sweep.Given as goal

abbrev pub invariant-loop : goal.invariant-loop
invariant-loop l = times (3 - l.counter) pair_of l.w ≡ times 3 pair_of l.initial.w
