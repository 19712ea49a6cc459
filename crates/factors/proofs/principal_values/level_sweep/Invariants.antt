-- `factors::principal_values::level_sweep` meets its contract. Assumes nothing.
use mathlib.Core.Path.{◌≡◌}
use Prim.Native.Nat.{◌-◌}
use Rattle.factors.specs.Sweeps.{times}
use Rattle.factors.specs.PrincipalValues.{level_pair_of}
use Rattle.factors.proofs.principal_values.level_sweep.Given as goal

abbrev pub invariant-loop : goal.invariant-loop
invariant-loop l = times (3 - l.counter) level_pair_of l.w ≡ times 3 level_pair_of l.initial.w
