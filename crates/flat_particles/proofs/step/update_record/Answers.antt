-- `flat_particles::step::update_record` meets its contract: what its calls ensure, on each path.
use borrow.Author.Tests.{eq-eqb, ne_eqb}
use Rattle.flat_particles.proofs.step.update_record.Goals as goal

pub returns-then-r-eq-FLOATS : goal.returns-then-r-eq-FLOATS
returns-then-r-eq-FLOATS c =
    let s = c.step.ensures in
    let e = eq-eqb _ _ c.if-r-eq-FLOATS.true in
    record { value = simp (s.0, e); r_after = simp (s.1, e) }

pub returns : goal.returns
returns c =
    let e = ne_eqb _ _ c.if-r-eq-FLOATS.false in
    record { value = simp e; r_after = simp e }
