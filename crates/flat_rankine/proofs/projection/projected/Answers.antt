-- The first test, on the strains as sorted: a side that is a number is compared as the walk compares it.
use Rattle.walk.specs.Matrix.{values_nums}
use Rattle.walk.proofs.Matrix.{value_sum}
use Rattle.flat_rankine.specs.Projection.{first_walk}
use Rattle.flat_rankine.proofs.projection.projected.Goals as goal

pub returns-then-first-s : goal.returns-then-first-s
unfolding first_walk
returns-then-first-s c =
    let t0 = simp (c.is_number.ensures, c.first_side-first.ensures, c.sum.ensures, c.arrange-r.ensures.0) at c.if-is_number.true in
    let t1 = simp (c.first_side-first.ensures, c.sum.ensures, c.arrange-r.ensures.0) at c.if-first-s.true in
    simp (t0, t1, c.requires, value_sum, values_nums)

pub returns-else-first-s : goal.returns-else-first-s
unfolding first_walk
returns-else-first-s c =
    let order = simp c.arrange-r.ensures.0 at c.arrange-r.ensures.1 in
    let t0 = simp (c.is_number.ensures, c.first_side-first.ensures, c.sum.ensures, c.arrange-r.ensures.0) at c.if-is_number.true in
    let t1 = simp (c.first_side-first.ensures, c.sum.ensures, c.arrange-r.ensures.0) at c.if-first-s.false in
    simp (c.one_or_both.ensures, c.arrange-r.ensures.0, order, t0, t1, c.requires, value_sum)

pub returns-else-is_number : goal.returns-else-is_number
unfolding first_walk
returns-else-is_number c =
    let t0 = simp (c.is_number.ensures, c.first_side-first.ensures, c.sum.ensures, c.arrange-r.ensures.0) at c.if-is_number.false in
    simp (c.refused_strains.ensures, t0, value_sum)
