-- `host_passes::friction::friction_in` answers `nacc_friction axes angle`.
use borrow.Author.Tests.{ne_eqb}
use Rattle.host_passes.specs.Friction.{nacc_friction}
use Rattle.host_passes.proofs.friction.friction_in.Goals as goal

pub returns-then-axes-eq2 : goal.returns-then-axes-eq2
unfolding nacc_friction
returns-then-axes-eq2 c =
    let t0 = c.if-axes-eq2.true in
    simp (c.friction_of.ensures, t0)

pub returns-then-axes-eq3 : goal.returns-then-axes-eq3
unfolding nacc_friction
returns-then-axes-eq3 c =
    let t0 = c.if-axes-eq3.true in
    simp (c.friction_of-then-axes-eq3.ensures, t0)

pub returns-else-axes-eq3 : goal.returns-else-axes-eq3
unfolding nacc_friction
returns-else-axes-eq3 c =
    let t0 = ne_eqb _ 3 c.if-axes-eq3.false in
    let t1 = ne_eqb _ 2 c.if-axes-eq2.false in
    simp (t1, t0)
