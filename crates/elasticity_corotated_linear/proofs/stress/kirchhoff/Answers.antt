-- The steps of the stress, of a finite sigma: each end is what the walk answers there.
use Rattle.elasticity_corotated_linear.proofs.Laws.{below_rows, above_rows, stress_law}
use Rattle.walk.proofs.Tensor.{worth_plus}
use Rattle.elasticity_corotated_linear.proofs.stress.kirchhoff.Goals as goal

pub returns-then-phase : goal.returns-then-phase
returns-then-phase c =
    let t0 = c.if-phase.true in
    let a = c.args in
    simp (c.answered.ensures, c.mat_add.ensures, c.dev_stress.ensures, c.spherical_stress-sph.ensures, c.less_one-e.ensures, t0, stress_law a.p a.phase a.hardening a.f a.u a.sigma a.vt c.requires a.j, worth_plus)

pub returns-else-phase : goal.returns-else-phase
returns-else-phase c =
    let t0 = c.if-phase.false in
    let a = c.args in
    simp (c.answered-else-phase.ensures, c.split_sum.ensures, c.phase_coeff.ensures, c.dev_stress-neg.ensures, c.negative.ensures, c.dev_stress-pos.ensures, c.positive.ensures, c.spherical_stress-sph.ensures, c.less_one-e.ensures, t0, stress_law a.p a.phase a.hardening a.f a.u a.sigma a.vt c.requires a.j, below_rows, above_rows)
