-- `solid::judged::judged` meets its contract: the stress's own refusal, that of its principal values, the verdict.
use borrow.Author.Tests.{eq-eqb, ne_eqb}
use Rattle.solid.specs.Judged.{judged_of}
use Rattle.solid.proofs.judged.judged.Goals as goal

pub returns-then-missed-eq0 : goal.returns-then-missed-eq0
unfolding judged_of
returns-then-missed-eq0 c =
    let p = c.principals-p.ensures in
    let m = c.of_rows.ensures in
    let t = eq-eqb _ 0 c.if-own-eq0.true in
    let e = simp (p, m) at (eq-eqb _ 0 c.if-missed-eq0.true) in
    simp (c.with_verdict.ensures, c.particle_failed.ensures, p, m, t, e)

pub returns-else-missed-eq0 : goal.returns-else-missed-eq0
unfolding judged_of
returns-else-missed-eq0 c =
    let p = c.principals-p.ensures in
    let m = c.of_rows.ensures in
    let t = eq-eqb _ 0 c.if-own-eq0.true in
    let e = simp (p, m) at (ne_eqb _ 0 c.if-missed-eq0.false) in
    simp (c.refused_judged.ensures, p, m, t, e)

pub returns-else-own-eq0 : goal.returns-else-own-eq0
unfolding judged_of
returns-else-own-eq0 c = simp (c.refused_judged-else-own-eq0.ensures, ne_eqb _ 0 c.if-own-eq0.false)
