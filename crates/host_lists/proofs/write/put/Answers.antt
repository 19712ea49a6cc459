-- `host_lists::write::put` meets its contract: what its calls ensure, on each path.
use borrow.Author.Tests.{eq-eqb, ne_eqb}
use Rattle.host_lists.specs.Out.{number_in}
use Rattle.host_lists.proofs.write.put.Goals as goal

pub returns-then-out-ne1 : goal.returns-then-out-ne1
unfolding number_in
returns-then-out-ne1 c =
    let e = ne_eqb _ _ c.if-out-ne1.true in
    simp e

pub returns-in-Value : goal.returns-in-Value
unfolding number_in
returns-in-Value c =
    let e = eq-eqb _ _ c.if-out-ne1.false in
    let t = c.in-Value.is in
    simp (e, t, c.bits_of.ensures)

pub returns-in-Refused : goal.returns-in-Refused
unfolding number_in
returns-in-Refused c =
    let e = eq-eqb _ _ c.if-out-ne1.false in
    let t = c.in-Refused.is in
    simp (e, t)
