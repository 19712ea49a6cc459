-- `factors::principal_values::levelled` meets its contract. Assumes nothing.
use mathlib.Core.Path.{◌≡◌}
use Prim.Native.Nat.{◌-◌}
use Rattle.factors.specs.Sweeps.{sweeps, times}
use Rattle.factors.specs.PrincipalValues.{level_step_of}
use Rattle.factors.proofs.principal_values.levelled.Given as goal

abbrev pub invariant-loop : goal.invariant-loop
invariant-loop l = times (sweeps - l.counter) level_step_of l.w ≡ times sweeps level_step_of l.initial.w
