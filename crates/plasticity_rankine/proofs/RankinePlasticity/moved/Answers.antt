-- The norm, the growth and the cap; the strength is a number.
use Rattle.walk.specs.Update.{in_three}
use Rattle.walk.specs.Matrix.{values_nums}
use Rattle.plasticity_rankine.proofs.Laws.{moved_law, harden_law}
use Rattle.plasticity_rankine.proofs.RankinePlasticity.moved.Goals as goal

pub returns-then-is_number : goal.returns-then-is_number
returns-then-is_number c =
    let t0 = simp (c.norm_on_path.ensures, c.row_sub.ensures) at c.in-Value.is in
    let t1 = simp (c.is_number.ensures, c.grown-grown.ensures, c.norm_on_path.ensures, c.row_sub.ensures) at c.if-is_number.true in
    simp (c.exps.ensures, c.capped.ensures, c.is_number.ensures, c.grown-grown.ensures, c.norm_on_path.ensures, c.row_sub.ensures, t0, t1, c.requires, moved_law in_three, harden_law in_three, values_nums)

pub returns-else-is_number : goal.returns-else-is_number
returns-else-is_number c =
    let t0 = simp (c.norm_on_path.ensures, c.row_sub.ensures) at c.in-Value.is in
    let t1 = simp (c.is_number.ensures, c.grown-grown.ensures, c.norm_on_path.ensures, c.row_sub.ensures) at c.if-is_number.false in
    simp (c.refuse.ensures, c.is_number.ensures, c.grown-grown.ensures, c.norm_on_path.ensures, c.row_sub.ensures, t0, t1, c.requires, moved_law in_three, harden_law in_three, values_nums)

pub returns-in-Refused : goal.returns-in-Refused
returns-in-Refused c =
    let t0 = simp (c.norm_on_path.ensures, c.row_sub.ensures) at c.in-Refused.is in
    simp (c.refuse-in-Refused.ensures, c.norm_on_path.ensures, c.row_sub.ensures, t0, moved_law in_three, harden_law in_three, values_nums)
