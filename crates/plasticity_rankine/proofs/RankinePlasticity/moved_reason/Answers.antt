-- The norm, the growth and the cap; the strength is a number.
use Rattle.walk.specs.Matrix.{values_nums}
use Rattle.walk.specs.Update.{in_three}
use Rattle.reason.specs.declared.Reason.TheVariants.{Refused}
use Rattle.reason.specs.Why.{tells_test}
use Rattle.plasticity_rankine.proofs.Laws.{moved_read, harden_read}
use Rattle.plasticity_rankine.proofs.RankinePlasticity.moved_reason.Goals as goal

pub returns-then-is_number : goal.returns-then-is_number
returns-then-is_number c =
    let t0 = simp (c.norm_on_path.ensures, c.row_sub.ensures) at c.in-Value.is in
    let t1 = simp (c.is_number.ensures, c.grown-grown.ensures, c.norm_on_path.ensures, c.row_sub.ensures) at c.if-is_number.true in
    simp (c.exps_reason.ensures, c.capped.ensures, c.is_number.ensures, c.grown-grown.ensures, c.norm_on_path.ensures, c.row_sub.ensures, t0, t1, c.requires, moved_read in_three Refused tells_test (λ q x. q), harden_read in_three Refused tells_test (λ q x. q), values_nums)

pub returns-else-is_number : goal.returns-else-is_number
returns-else-is_number c =
    let t0 = simp (c.norm_on_path.ensures, c.row_sub.ensures) at c.in-Value.is in
    let t1 = simp (c.is_number.ensures, c.grown-grown.ensures, c.norm_on_path.ensures, c.row_sub.ensures) at c.if-is_number.false in
    simp (c.is_number.ensures, c.grown-grown.ensures, c.norm_on_path.ensures, c.row_sub.ensures, t0, t1, c.requires, moved_read in_three Refused tells_test (λ q x. q), harden_read in_three Refused tells_test (λ q x. q), values_nums)

pub returns-in-Refused : goal.returns-in-Refused
returns-in-Refused c =
    let t0 = simp (c.norm_on_path.ensures, c.row_sub.ensures) at c.in-Refused.is in
    simp (c.norm_on_path.ensures, c.row_sub.ensures, t0, moved_read in_three Refused tells_test (λ q x. q), harden_read in_three Refused tells_test (λ q x. q), values_nums)
