-- `nearness::carries::within` meets its contract. Assumes nothing.
use mathlib.Core.Path.{◌≡◌}
use Prim.Native.Nat.{◌^◌, ◌<◌}
use Rattle.nearness.proofs.Steps.{up_at, down_at}
use Rattle.nearness.proofs.carries.within.Given as goal

abbrev pub invariant-loop-i : goal.invariant-loop-i
invariant-loop-i l = (l.up ≡ up_at l.a l.b l.c l.d l.m l.i) × (l.down ≡ down_at l.a l.b l.c l.d l.m l.i) × (l.up < 2 ^ 32) × (l.down < 2 ^ 32)
