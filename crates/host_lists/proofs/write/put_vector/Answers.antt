-- `host_lists::write::put_vector` meets its contract: what its calls ensure, on each path.
use borrow.Author.Tests.{eq-eqb, ne_eqb}
use Rattle.host_lists.specs.Out.{vector_in}
use Rattle.host_lists.proofs.write.put_vector.Goals as goal

pub returns-then-out-ne3 : goal.returns-then-out-ne3
unfolding vector_in
returns-then-out-ne3 c =
    let e = ne_eqb _ _ c.if-out-ne3.true in
    simp e

pub returns-then-n-ne0 : goal.returns-then-n-ne0
unfolding vector_in
returns-then-n-ne0 c =
    let e = eq-eqb _ _ c.if-out-ne3.false in
    let t = ne_eqb _ _ c.if-n-ne0.true in
    simp (e, t)

pub returns : goal.returns
unfolding vector_in
returns c =
    let e = eq-eqb _ _ c.if-out-ne3.false in
    let t = c.if-n-ne0.false in
    simp (e, t, c.write_row.ensures)
