-- `host_lists::write::put_judged` meets its contract: both are written or neither.
use borrow.Author.Tests.{eq-eqb, ne_eqb}
use Rattle.host_lists.specs.Out.{judged_in}
use Rattle.host_lists.proofs.write.put_judged.Goals as goal

pub returns-then-stress-ne9 : goal.returns-then-stress-ne9
unfolding judged_in
returns-then-stress-ne9 c =
    let e = ne_eqb _ _ c.if-stress-ne9.true in
    simp e

pub returns-then-verdict-ne1 : goal.returns-then-verdict-ne1
unfolding judged_in
returns-then-verdict-ne1 c =
    let e = eq-eqb _ _ c.if-stress-ne9.false in
    let f = ne_eqb _ _ c.if-verdict-ne1.true in
    simp (e, f)

pub returns-then-refusal-ne0 : goal.returns-then-refusal-ne0
unfolding judged_in
returns-then-refusal-ne0 c =
    let e = eq-eqb _ _ c.if-stress-ne9.false in
    let f = eq-eqb _ _ c.if-verdict-ne1.false in
    let t = ne_eqb _ _ c.if-refusal-ne0.true in
    simp (e, f, t)

pub returns : goal.returns
unfolding judged_in
returns c =
    let e = eq-eqb _ _ c.if-stress-ne9.false in
    let f = eq-eqb _ _ c.if-verdict-ne1.false in
    let t = c.if-refusal-ne0.false in
    simp (e, f, t, c.write_rows.ensures, c.verdict_word.ensures)
