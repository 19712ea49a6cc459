-- `plasticity_drucker_prager::DruckerPragerPlasticity::strained` answers `walked_of (traced (strained_walk dim self sigma e alpha))`.
use Rattle.std.proofs.Common.{rules}
use mathlib.Core.List.{map}
use mathlib.Core.Path.{sym}
use lib.Ieee.{nan}
use Rattle.tensor.proofs.Axes.{of_one}
use Rattle.tensor.specs.Matrix.{one}
use Rattle.plasticity_drucker_prager.proofs.Laws.{tip_law}
use Rattle.walk.proofs.Matrix.{value_sum}
use Rattle.walk.proofs.Expr.{zero_number}
use Rattle.plasticity_drucker_prager.specs.Projection.{strained_walk}
use Rattle.plasticity_drucker_prager.proofs.DruckerPragerPlasticity.strained.Goals as goal

pub returns-then-all_zero : goal.returns-then-all_zero
unfolding strained_walk
returns-then-all_zero c =
    let ones = sym (of_one (map (λ x. one)) nan c.args.e (search rules)) in
    let t0 = simp (c.all_zero.ensures, c.deviatoric-d.ensures, c.sum-trace.ensures) at c.if-all_zero.true in
    let t1 = simp (c.all_numbers.ensures, c.deviatoric-d.ensures, c.sum-trace.ensures) at c.if-all_numbers.true in
    let t2 = simp (c.is_number.ensures, c.sum-trace.ensures) at c.if-is_number.true in
    simp (c.tip.ensures, tip_law, ones, c.deviatoric-d.ensures, c.sum-trace.ensures, t0, t1, t2, value_sum, zero_number)

pub returns-then-trace : goal.returns-then-trace
unfolding strained_walk
returns-then-trace c =
    let ones = sym (of_one (map (λ x. one)) nan c.args.e (search rules)) in
    let t0 = simp c.sum-trace.ensures at c.if-trace.true in
    let t1 = simp (c.all_zero.ensures, c.deviatoric-d.ensures, c.sum-trace.ensures) at c.if-all_zero.false in
    let t2 = simp (c.all_numbers.ensures, c.deviatoric-d.ensures, c.sum-trace.ensures) at c.if-all_numbers.true in
    let t3 = simp (c.is_number.ensures, c.sum-trace.ensures) at c.if-is_number.true in
    simp (c.tip-then-trace.ensures, tip_law, ones, c.sum-trace.ensures, t0, t1, t2, t3, value_sum, zero_number)

pub returns-else-trace : goal.returns-else-trace
unfolding strained_walk
returns-else-trace c =
    let t0 = simp c.sum-trace.ensures at c.if-trace.false in
    let t1 = simp (c.all_zero.ensures, c.deviatoric-d.ensures, c.sum-trace.ensures) at c.if-all_zero.false in
    let t2 = simp (c.all_numbers.ensures, c.deviatoric-d.ensures, c.sum-trace.ensures) at c.if-all_numbers.true in
    let t3 = simp (c.is_number.ensures, c.sum-trace.ensures) at c.if-is_number.true in
    simp (c.yielded.ensures, c.deviatoric-d.ensures, c.sum-trace.ensures, t0, t1, t2, t3, value_sum, zero_number)

pub returns-else-all_numbers : goal.returns-else-all_numbers
unfolding strained_walk
returns-else-all_numbers c =
    let t0 = simp (c.all_numbers.ensures, c.deviatoric-d.ensures, c.sum-trace.ensures) at c.if-all_numbers.false in
    let t1 = simp (c.is_number.ensures, c.sum-trace.ensures) at c.if-is_number.true in
    simp (c.refused_projection.ensures, t0, t1, value_sum, zero_number)

pub returns-else-is_number : goal.returns-else-is_number
unfolding strained_walk
returns-else-is_number c =
    let t0 = simp (c.is_number.ensures, c.sum-trace.ensures) at c.if-is_number.false in
    simp (c.refused_projection-else-is_number.ensures, t0, value_sum, zero_number)
