-- `host_lists::write::put_pair` meets its contract: what its calls ensure, on each path.
use borrow.Author.Tests.{eq-eqb, ne_eqb}
use Rattle.host_lists.specs.Out.{pair_in}
use Rattle.host_lists.proofs.write.put_pair.Goals as goal

pub returns-then-out-ne2 : goal.returns-then-out-ne2
unfolding pair_in
returns-then-out-ne2 c =
    let e = ne_eqb _ _ c.if-out-ne2.true in
    simp e

pub returns-in-Values : goal.returns-in-Values
unfolding pair_in
returns-in-Values c =
    let e = eq-eqb _ _ c.if-out-ne2.false in
    let t = c.in-Values.is in
    simp (e, t, c.bits_of-in-Values.ensures, c.bits_of.ensures)

pub returns-in-Refused : goal.returns-in-Refused
unfolding pair_in
returns-in-Refused c =
    let e = eq-eqb _ _ c.if-out-ne2.false in
    let t = c.in-Refused.is in
    simp (e, t)
