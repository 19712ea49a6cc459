-- The second test: a side that is a number is compared as the walk compares it.
use Rattle.walk.proofs.Matrix.{value_sum}
use Rattle.flat_rankine.specs.Projection.{second_walk}
use Rattle.flat_rankine.proofs.Laws.{restored}
use Rattle.flat_rankine.proofs.projection.one_or_both.Goals as goal

pub returns-then-second-s : goal.returns-then-second-s
unfolding second_walk
returns-then-second-s c =
    let t0 = simp (c.is_number.ensures, c.second_side-second.ensures, c.sum-sum.ensures) at c.if-is_number.true in
    let t1 = simp (c.second_side-second.ensures, c.sum-sum.ensures) at c.if-second-s.true in
    simp (c.moved_to.ensures, c.restore.ensures, c.back_one-x.ensures, c.second_side-second.ensures, c.sum-sum.ensures, t0, t1, c.requires, restored, value_sum)

pub returns-else-second-s : goal.returns-else-second-s
unfolding second_walk
returns-else-second-s c =
    let t0 = simp (c.is_number.ensures, c.second_side-second.ensures, c.sum-sum.ensures) at c.if-is_number.true in
    let t1 = simp (c.second_side-second.ensures, c.sum-sum.ensures) at c.if-second-s.false in
    simp (c.moved_to-else-second-s.ensures, c.restore-else-second-s.ensures, c.back_both-x.ensures, c.second_side-second.ensures, c.sum-sum.ensures, t0, t1, c.requires, restored, value_sum)

pub returns-else-is_number : goal.returns-else-is_number
unfolding second_walk
returns-else-is_number c =
    let t0 = simp (c.is_number.ensures, c.second_side-second.ensures, c.sum-sum.ensures) at c.if-is_number.false in
    simp (c.refused_strains.ensures, t0, value_sum)
