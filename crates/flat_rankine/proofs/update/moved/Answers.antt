-- The norm, the growth and the cap; the strength is a number.
use Rattle.walk.specs.Matrix.{values_nums}
use Rattle.plasticity_rankine.proofs.Laws.{moved_law, harden_law}
use Rattle.flat.specs.Update.{in_two}
use Rattle.flat_rankine.proofs.update.moved.Goals as goal

pub returns-then-is_number : goal.returns-then-is_number
returns-then-is_number c =
    let t0 = simp c.norm.ensures at c.in-Value.is in
    let t1 = simp c.is_number.ensures at c.if-is_number.true in
    simp (c.exps.ensures, c.min.ensures, t0, t1, c.requires, moved_law in_two, harden_law in_two, values_nums)

pub returns-else-is_number : goal.returns-else-is_number
returns-else-is_number c =
    let t0 = simp c.norm.ensures at c.in-Value.is in
    let t1 = simp c.is_number.ensures at c.if-is_number.false in
    simp (c.refuse.ensures, t0, t1, c.requires, moved_law in_two, harden_law in_two, values_nums)

pub returns-in-Refused : goal.returns-in-Refused
returns-in-Refused c =
    let t0 = simp c.norm.ensures at c.in-Refused.is in
    simp (c.refuse-in-Refused.ensures, t0, moved_law in_two, values_nums)
