-- `host::judged::pasoletu_neo_hookean_stress_and_verdict` meets its contract.
use Rattle.host.specs.Judged.{neo_hookean_stress_and_verdict}
use Rattle.host.proofs.judged.pasoletu_neo_hookean_stress_and_verdict.Goals as goal

pub returns : goal.returns
unfolding neo_hookean_stress_and_verdict
returns c =
    let p = c.put_judged.ensures in
    let e0 = c.sized_judged.ensures in
    let e1 = c.stress_and_verdict-a.ensures in
    let e2 = c.limits.ensures in
    let e3 = c.neo_hookean-p.ensures in
    rw (e0, e1, e2, e3) at p
