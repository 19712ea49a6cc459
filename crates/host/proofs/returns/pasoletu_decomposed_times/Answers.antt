-- `host::returns::pasoletu_decomposed_times` meets its contract.
use Rattle.host.specs.Calls.{decomposed_times}
use Rattle.host.proofs.returns.pasoletu_decomposed_times.Goals as goal

pub returns : goal.returns
unfolding decomposed_times
returns c =
    let p = c.put_vector.ensures in
    let e0 = c.sized_vector.ensures in
    let e1 = c.times.ensures in
    let e2 = c.row.ensures in
    let e3 = c.decomposed-t.ensures in
    rw (e0, e1, e2, e3) at p
