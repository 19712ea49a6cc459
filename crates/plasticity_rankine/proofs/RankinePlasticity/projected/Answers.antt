-- The first test, on the strains as sorted: a side that is a number is compared as the walk compares it.
use Rattle.walk.specs.Matrix.{values_nums}
use Rattle.walk.proofs.Matrix.{value_sum}
use Rattle.plasticity_rankine.specs.Projection.{first_walk}
use Rattle.plasticity_rankine.proofs.RankinePlasticity.projected.Goals as goal

pub returns-then-first-s : goal.returns-then-first-s
unfolding first_walk
returns-then-first-s c =
    let t0 = simp (c.is_number.ensures, c.first_side-first.ensures, c.sum.ensures, c.arrange-r.ensures, c.rank-k.ensures) at c.if-is_number.true in
    let t1 = simp (c.first_side-first.ensures, c.sum.ensures, c.arrange-r.ensures, c.rank-k.ensures) at c.if-first-s.true in
    simp (c.first_side-first.ensures, c.sum.ensures, c.arrange-r.ensures, c.rank-k.ensures, t0, t1, c.requires, value_sum, values_nums)

pub returns-else-first-s : goal.returns-else-first-s
unfolding first_walk
returns-else-first-s c =
    let t0 = simp (c.is_number.ensures, c.first_side-first.ensures, c.sum.ensures, c.arrange-r.ensures, c.rank-k.ensures) at c.if-is_number.true in
    let t1 = simp (c.first_side-first.ensures, c.sum.ensures, c.arrange-r.ensures, c.rank-k.ensures) at c.if-first-s.false in
    simp (c.one_or_more.ensures, c.arrange-r.ensures, c.rank-k.ensures, t0, t1, c.requires, value_sum)

pub returns-else-is_number : goal.returns-else-is_number
unfolding first_walk
returns-else-is_number c =
    let t0 = simp (c.is_number.ensures, c.first_side-first.ensures, c.sum.ensures, c.arrange-r.ensures, c.rank-k.ensures) at c.if-is_number.false in
    simp (c.refused_strains.ensures, t0, value_sum)
