-- `logarithm::rest` meets its contract. Assumes nothing.
use Prim.Native.Nat.{◌+◌, ◌%◌, ◌^◌, ◌<◌}
use native.Mathlib.Omega.{arith}
use Rattle.exact.proofs.Patterns.{units_at, not_nan_bits}
use Rattle.logarithm.proofs.rest.Goals as goal

pub float_from_bits-result : goal.float_from_bits-result
float_from_bits-result c =
    let t = c.args.n % 2 ^ 52 in
    let h : t < 2 ^ 52 = omega arith in
    not_nan_bits (0x3ff0_0000_0000_0000 + t) (units_at 1022 t (omega arith) h).fine.0
