-- `fixed_point::fixed` answers `m * 2 ^ e / 2 ^ 1022`.
use Prim.Native.Nat.{◌-◌}
use native.Mathlib.Omega.{arith}
use Rattle.exact.proofs.Shift.{up, down, gone}
use Rattle.fixed_point.proofs.fixed.Goals as goal

pub returns-then-e-ge1022 : goal.returns-then-e-ge1022
returns-then-e-ge1022 c = up c.args.m c.args.e c.requires.0 c.if-e-ge1022.true c.requires.1

pub returns-then-s-lt64 : goal.returns-then-s-lt64
returns-then-s-lt64 c = down c.args.m c.args.e (1022 - c.args.e) (omega arith)

pub returns-else-s-lt64 : goal.returns-else-s-lt64
returns-else-s-lt64 c = gone c.args.m c.args.e (1022 - c.args.e) c.requires.0 (omega arith) (omega arith)
