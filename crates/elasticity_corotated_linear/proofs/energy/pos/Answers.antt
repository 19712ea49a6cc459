-- The steps of `pos_energy`, of a finite sigma.
use Rattle.elasticity_corotated_linear.proofs.Laws.{pos_law}
use Rattle.elasticity_corotated_linear.proofs.energy.pos.Goals as goal

pub returns : goal.returns
returns c =
    let a = c.args in
    simp (c.pos_sum.ensures, c.spherical_energy-sph.ensures, c.pos_dev_part-dev.ensures, c.positive-e.ensures, c.less_one.ensures, pos_law a.p a.sigma a.hardening c.requires a.j)
