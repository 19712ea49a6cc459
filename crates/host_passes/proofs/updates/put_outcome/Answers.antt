-- `host_passes::updates::put_outcome` meets its contract.
use Rattle.host_passes.proofs.updates.put_outcome.Goals as goal

pub returns-in-Untouched : goal.returns-in-Untouched
returns-in-Untouched c =
    let t = c.in-Untouched.is in
    record { value = simp t; answer_after = simp (c.copy.ensures, t) }

pub returns-in-Stored : goal.returns-in-Stored
returns-in-Stored c =
    let t = c.in-Stored.is in
    record { value = simp t; answer_after = simp (c.copy-in-Stored.ensures, c.bits_of.ensures, t) }
