-- `fixed_point::float::to_float` meets its contract. Assumes nothing.
use mathlib.Core.Path.{◌≡◌}
use Prim.Native.Nat.{ℕ, ◌*◌, ◌%◌, ◌^◌, ◌<◌, ◌≤◌}
use native.Mathlib.Nat.{mod-eq_of_lt}
use native.Mathlib.Omega.{arith}
use lib.Count.{count_leading_zeros}
use Rattle.std.proofs.Common.{rules}
use Rattle.exact.proofs.Patterns.{not_nan_bits}
use Rattle.fixed_point.proofs.ToFloat.{Packs, packs, from_pattern, at_zero, is_plus, is_minus}
use Rattle.fixed_point.proofs.float.to_float.Goals as goal

-- the shift loses no digit
whole : (l u : ℕ) → 0 < l → l < 2 ^ 64 → u ≤ 1000 → l * 2 ^ count_leading_zeros 64 l % 2 ^ 64 ≡ l * 2 ^ count_leading_zeros 64 l
whole l u some fits small = mod-eq_of_lt (packs l u some fits small).shift.high

pub returns-then-l-eq0 : goal.returns-then-l-eq0
returns-then-l-eq0 c = rw c.if-l-eq0.true (at_zero c.args.u c.args.negative)

pub overflow_cast-pattern : goal.overflow_cast-pattern
overflow_cast-pattern c = let p = packs c.args.l c.args.u (omega arith) c.ranges.l.fits c.requires in search rules

pub overflow_sub-pattern-2 : goal.overflow_sub-pattern-2
overflow_sub-pattern-2 c = let p = packs c.args.l c.args.u (omega arith) c.ranges.l.fits c.requires in search rules

pub overflow_cast-pattern-2 : goal.overflow_cast-pattern-2
overflow_cast-pattern-2 c = let p = packs c.args.l c.args.u (omega arith) c.ranges.l.fits c.requires in search rules

pub overflow_shl-pattern : goal.overflow_shl-pattern
overflow_shl-pattern c = let p = packs c.args.l c.args.u (omega arith) c.ranges.l.fits c.requires in search rules

pub float_from_bits-result : goal.float_from_bits-result
float_from_bits-result c = rw (whole c.args.l c.args.u (omega arith) c.ranges.l.fits c.requires) (not_nan_bits _ (packs c.args.l c.args.u (omega arith) c.ranges.l.fits c.requires).minus.fine.0)

pub float_from_bits-result-else-negative : goal.float_from_bits-result-else-negative
float_from_bits-result-else-negative c = rw (whole c.args.l c.args.u (omega arith) c.ranges.l.fits c.requires) (not_nan_bits _ (packs c.args.l c.args.u (omega arith) c.ranges.l.fits c.requires).plus.fine.0)

pub returns-then-negative : goal.returns-then-negative
returns-then-negative c =
    let l = c.args.l in
    let u = c.args.u in
    rw (whole c.args.l c.args.u (omega arith) c.ranges.l.fits c.requires, c.if-negative.true) (from_pattern l u (omega arith) c.ranges.l.fits c.requires _ _ (is_minus l u (omega arith)) (packs c.args.l c.args.u (omega arith) c.ranges.l.fits c.requires).minus)

pub returns-else-negative : goal.returns-else-negative
returns-else-negative c =
    let l = c.args.l in
    let u = c.args.u in
    rw (whole c.args.l c.args.u (omega arith) c.ranges.l.fits c.requires, c.if-negative.false) (from_pattern l u (omega arith) c.ranges.l.fits c.requires _ _ (is_plus l u (omega arith)) (packs c.args.l c.args.u (omega arith) c.ranges.l.fits c.requires).plus)
