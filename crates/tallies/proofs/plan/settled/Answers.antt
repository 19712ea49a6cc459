-- `tallies::plan::settled` meets its contract: by what the plan does.
use borrow.Author.Tests.{eq-eqb, ne_eqb}
use Rattle.tallies.proofs.plan.settled.Goals as goal

pub returns-then-what-eq1 : goal.returns-then-what-eq1
returns-then-what-eq1 c = let t = eq-eqb _ _ c.if-what-eq1.true in simp (c.with_particles.ensures, c.count_at-n.ensures, t)

pub returns-then-what-eq2 : goal.returns-then-what-eq2
returns-then-what-eq2 c =
    let t = eq-eqb _ _ c.if-what-eq2.true in
    let f = ne_eqb _ _ c.if-what-eq1.false in
    simp (c.with_particles-then-what-eq2.ensures, c.empty.ensures, c.count_at-n.ensures, f, t)

pub returns : goal.returns
returns c =
    let f = ne_eqb _ _ c.if-what-eq1.false in
    let g = ne_eqb _ _ c.if-what-eq2.false in
    simp (f, g)
