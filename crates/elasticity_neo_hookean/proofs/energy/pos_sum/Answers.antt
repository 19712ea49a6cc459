-- The parts of `pos_energy` on either side of j = 1.
use Rattle.elasticity_neo_hookean.proofs.energy.pos_sum.Goals as goal

pub returns-then-j : goal.returns-then-j
returns-then-j c =
    let t0 = c.if-j.true in
    simp (c.answered.ensures, c.phase_coeff.ensures, t0)

pub returns-else-j : goal.returns-else-j
returns-else-j c =
    let t0 = c.if-j.false in
    simp (c.answered-else-j.ensures, t0)
