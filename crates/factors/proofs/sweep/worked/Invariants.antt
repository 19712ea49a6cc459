-- `factors::sweep::worked` meets its contract. Assumes nothing.
use mathlib.Core.Path.{◌≡◌}
use Prim.Native.Nat.{◌-◌}
use Rattle.factors.specs.Sweeps.{sweeps, times, step_of}
use Rattle.factors.proofs.sweep.worked.Given as goal

abbrev pub invariant-loop : goal.invariant-loop
invariant-loop l = times (sweeps - l.counter) step_of l.w ≡ times sweeps step_of l.initial.w
