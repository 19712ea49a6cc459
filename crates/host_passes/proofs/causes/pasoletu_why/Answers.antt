-- `host_passes::causes::pasoletu_why` meets its contract.
use borrow.Author.Tests.{eq-eqb, ne_eqb}
use Rattle.host_lists.proofs.Called.{fitting, not_fitting}
use Rattle.host_passes.specs.Causes.{why_by}
use Rattle.host_passes.proofs.causes.pasoletu_why.Goals as goal

pub returns-then-reason-ne11 : goal.returns-then-reason-ne11
unfolding why_by
returns-then-reason-ne11 c = not_fitting _ _ _ (ne_eqb _ _ c.if-reason-ne11.true)

pub returns : goal.returns
unfolding why_by
returns c =
    let p = c.put_cause.ensures in
    let r = c.why-w.ensures in
    let e = eq-eqb _ _ c.if-reason-ne11.false in
    fitting _ _ _ e (rw r at p)
