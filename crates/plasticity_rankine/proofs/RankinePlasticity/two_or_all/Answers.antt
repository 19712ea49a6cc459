-- The third test: a side that is a number is compared as the walk compares it.
use Rattle.walk.proofs.Matrix.{value_sum}
use Rattle.plasticity_rankine.specs.Projection.{third_walk}
use Rattle.plasticity_rankine.proofs.Laws.{restored}
use Rattle.plasticity_rankine.proofs.RankinePlasticity.two_or_all.Goals as goal

pub returns-then-third-s : goal.returns-then-third-s
unfolding third_walk
returns-then-third-s c =
    let t0 = simp (c.is_number.ensures, c.third_side-third.ensures) at c.if-is_number.true in
    let t1 = simp c.third_side-third.ensures at c.if-third-s.true in
    simp (c.restore.ensures, c.sorted.ensures, c.back_two-x.ensures, c.sum.ensures, c.third_side-third.ensures, t0, t1, c.requires, restored, value_sum)

pub returns-else-third-s : goal.returns-else-third-s
unfolding third_walk
returns-else-third-s c =
    let t0 = simp (c.is_number.ensures, c.third_side-third.ensures) at c.if-is_number.true in
    let t1 = simp c.third_side-third.ensures at c.if-third-s.false in
    simp (c.restore-else-third-s.ensures, c.sorted-else-third-s.ensures, c.back_all-x.ensures, c.third_side-third.ensures, t0, t1, c.requires, restored)

pub returns-else-is_number : goal.returns-else-is_number
unfolding third_walk
returns-else-is_number c =
    let t0 = simp (c.is_number.ensures, c.third_side-third.ensures) at c.if-is_number.false in
    simp (c.refused_strains.ensures, t0)
