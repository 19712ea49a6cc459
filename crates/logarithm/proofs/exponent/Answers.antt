-- `logarithm::exponent` meets its contract. Assumes nothing.
use Prim.Native.Nat.{◌+◌, ◌/◌, ◌^◌, ◌<◌}
use native.Mathlib.Omega.{arith}
use Rattle.std.proofs.Common.{rules}
use Rattle.exact.proofs.Patterns.{units_at, not_nan_bits}
use Rattle.logarithm.specs.Worked.{exponent_of}
use Rattle.logarithm.proofs.exponent.Goals as goal

pub float_from_bits-result : goal.float_from_bits-result
float_from_bits-result c =
    let e = c.args.n / 2 ^ 52 in
    let h : e < 2 ^ 52 = omega (arith, c.ranges.n.fits) in
    not_nan_bits (0x4330_0000_0000_0000 + e) (units_at 1074 e (omega arith) h).fine.0

pub returns : goal.returns
unfolding exponent_of
returns c = search rules
