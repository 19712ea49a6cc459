-- The second test: a side that is a number is compared as the walk compares it.
use Rattle.walk.proofs.Matrix.{value_sum}
use Rattle.plasticity_rankine.specs.Projection.{second_walk}
use Rattle.plasticity_rankine.proofs.Laws.{restored}
use Rattle.plasticity_rankine.proofs.RankinePlasticity.one_or_more.Goals as goal

pub returns-then-second-s : goal.returns-then-second-s
unfolding second_walk
returns-then-second-s c =
    let t0 = simp (c.is_number.ensures, c.second_side-second.ensures, c.sum-sum.ensures) at c.if-is_number.true in
    let t1 = simp (c.second_side-second.ensures, c.sum-sum.ensures) at c.if-second-s.true in
    simp (c.restore.ensures, c.sorted.ensures, c.back_one-x.ensures, c.second_side-second.ensures, c.sum-sum.ensures, t0, t1, c.requires, restored, value_sum)

pub returns-else-second-s : goal.returns-else-second-s
unfolding second_walk
returns-else-second-s c =
    let t0 = simp (c.is_number.ensures, c.second_side-second.ensures, c.sum-sum.ensures) at c.if-is_number.true in
    let t1 = simp (c.second_side-second.ensures, c.sum-sum.ensures) at c.if-second-s.false in
    simp (c.two_or_all.ensures, t0, t1, c.requires, value_sum)

pub returns-else-is_number : goal.returns-else-is_number
unfolding second_walk
returns-else-is_number c =
    let t0 = simp (c.is_number.ensures, c.second_side-second.ensures, c.sum-sum.ensures) at c.if-is_number.false in
    simp (c.refused_strains.ensures, t0, value_sum)
