-- `host::judged::pasoletu_corotated_stress_and_verdict` meets its contract.
use Rattle.host.specs.Judged.{corotated_stress_and_verdict}
use Rattle.host.proofs.judged.pasoletu_corotated_stress_and_verdict.Goals as goal

pub returns : goal.returns
unfolding corotated_stress_and_verdict
returns c =
    let p = c.put_judged.ensures in
    let e0 = c.sized_judged.ensures in
    let e1 = c.flagged_judged-b.ensures in
    let e2 = c.word.ensures in
    let e3 = c.stress_and_verdict-a.ensures in
    let e4 = c.limits.ensures in
    let e5 = c.corotated-p.ensures in
    rw (e0, e1, e2, e3, e4, e5) at p
