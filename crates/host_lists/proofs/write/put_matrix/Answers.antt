-- `host_lists::write::put_matrix` meets its contract: what its calls ensure, on each path.
use borrow.Author.Tests.{eq-eqb, ne_eqb}
use Rattle.host_lists.specs.Out.{matrix_in}
use Rattle.host_lists.proofs.write.put_matrix.Goals as goal

pub returns-then-out-ne9 : goal.returns-then-out-ne9
unfolding matrix_in
returns-then-out-ne9 c =
    let e = ne_eqb _ _ c.if-out-ne9.true in
    simp e

pub returns-then-refusal-ne0 : goal.returns-then-refusal-ne0
unfolding matrix_in
returns-then-refusal-ne0 c =
    let e = eq-eqb _ _ c.if-out-ne9.false in
    let t = ne_eqb _ _ c.if-refusal-ne0.true in
    simp (e, t)

pub returns : goal.returns
unfolding matrix_in
returns c =
    let e = eq-eqb _ _ c.if-out-ne9.false in
    let t = c.if-refusal-ne0.false in
    simp (e, t, c.write_rows.ensures)
