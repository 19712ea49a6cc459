-- The two parts of the energy, added on either side of j = 1, below it by the mode.
use Rattle.elasticity_neo_hookean.proofs.energy.energy_sum.Goals as goal

pub returns-then-j : goal.returns-then-j
returns-then-j c =
    let t0 = c.if-j.true in
    simp (c.answered.ensures, t0)

pub returns-then-one_split : goal.returns-then-one_split
returns-then-one_split c =
    let t0 = c.if-one_split.true in
    let t1 = c.if-j.false in
    simp (c.answered-then-one_split.ensures, t0, t1)

pub returns-else-one_split : goal.returns-else-one_split
returns-else-one_split c =
    let t0 = c.if-one_split.false in
    let t1 = c.if-j.false in
    simp (c.answered-else-one_split.ensures, t0, t1)
