-- `flat_drucker_prager::projection::strained` answers `projected_of (result (strained_walk dim p sigma e alpha))`.
use Rattle.std.proofs.Common.{rules}
use Rattle.flat_drucker_prager.proofs.Laws.{isotropic_tip, expanding_tip}
use Rattle.walk.proofs.Matrix.{value_sum}
use Rattle.walk.proofs.Expr.{zero_number}
use Rattle.plasticity_drucker_prager.specs.Projection.{strained_walk}
use Rattle.flat_drucker_prager.proofs.projection.strained.Goals as goal

pub returns-then-all_zero : goal.returns-then-all_zero
unfolding strained_walk
returns-then-all_zero c =
    let tips = isotropic_tip c.args.e (search rules) in
    let t0 = simp (c.all_zero.ensures, c.deviatoric-d.ensures, c.sum-trace.ensures) at c.if-all_zero.true in
    let t1 = simp (c.all_numbers.ensures, c.deviatoric-d.ensures, c.sum-trace.ensures) at c.if-all_numbers.true in
    let t2 = simp (c.is_number.ensures, c.sum-trace.ensures) at c.if-is_number.true in
    simp (c.tip.ensures, tips, c.deviatoric-d.ensures, c.sum-trace.ensures, t0, t1, t2, value_sum, zero_number)

pub returns-then-trace : goal.returns-then-trace
unfolding strained_walk
returns-then-trace c =
    let tips = expanding_tip c.args.e (search rules) in
    let t0 = simp c.sum-trace.ensures at c.if-trace.true in
    let t1 = simp (c.all_zero.ensures, c.deviatoric-d.ensures, c.sum-trace.ensures) at c.if-all_zero.false in
    let t2 = simp (c.all_numbers.ensures, c.deviatoric-d.ensures, c.sum-trace.ensures) at c.if-all_numbers.true in
    let t3 = simp (c.is_number.ensures, c.sum-trace.ensures) at c.if-is_number.true in
    simp (c.tip-then-trace.ensures, tips, c.sum-trace.ensures, t0, t1, t2, t3, value_sum, zero_number)

pub returns-else-trace : goal.returns-else-trace
unfolding strained_walk
returns-else-trace c =
    let t0 = simp c.sum-trace.ensures at c.if-trace.false in
    let t1 = simp (c.all_zero.ensures, c.deviatoric-d.ensures, c.sum-trace.ensures) at c.if-all_zero.false in
    let t2 = simp (c.all_numbers.ensures, c.deviatoric-d.ensures, c.sum-trace.ensures) at c.if-all_numbers.true in
    let t3 = simp (c.is_number.ensures, c.sum-trace.ensures) at c.if-is_number.true in
    simp (c.yielded.ensures, c.deviatoric-d.ensures, c.sum-trace.ensures, t0, t1, t2, t3, value_sum, zero_number)

pub returns-else-all_numbers : goal.returns-else-all_numbers
unfolding strained_walk
returns-else-all_numbers c =
    let t0 = simp (c.all_numbers.ensures, c.deviatoric-d.ensures, c.sum-trace.ensures) at c.if-all_numbers.false in
    let t1 = simp (c.is_number.ensures, c.sum-trace.ensures) at c.if-is_number.true in
    simp (c.refused_projection.ensures, t0, t1, value_sum, zero_number)

pub returns-else-is_number : goal.returns-else-is_number
unfolding strained_walk
returns-else-is_number c =
    let t0 = simp (c.is_number.ensures, c.sum-trace.ensures) at c.if-is_number.false in
    simp (c.refused_projection-else-is_number.ensures, t0, value_sum, zero_number)
