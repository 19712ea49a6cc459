-- `host_passes::causes::put_cause` meets its contract.
use borrow.Author.Tests.{ne_eqb}
use Rattle.host_passes.proofs.causes.put_cause.Goals as goal

pub returns-then-n-ne0 : goal.returns-then-n-ne0
returns-then-n-ne0 c =
    let n = c.call_refusal-n.ensures in
    let t = ne_eqb _ _ (simp n at c.if-n-ne0.true) in
    simp (n, t)

pub returns : goal.returns
returns c =
    let t = simp c.call_refusal-n.ensures at c.if-n-ne0.false in
    simp (c.copy.ensures, c.words-words.ensures, t)
