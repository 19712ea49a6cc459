-- `host_passes::counts::put_counts` meets its contract.
use Rattle.host_passes.proofs.counts.put_counts.Goals as goal

pub returns-in-Done : goal.returns-in-Done
returns-in-Done c =
    let t = c.in-Done.is in
    record { value = simp t; counts_after = simp (c.copy.ensures, t) }
