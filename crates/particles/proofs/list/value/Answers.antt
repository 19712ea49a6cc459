-- `particles::list::value` meets its contract: what its calls ensure, on each path.
use Rattle.particles.proofs.list.value.Goals as goal

pub finite_bits-requires : goal.finite_bits-requires
finite_bits-requires c = rw c.in-Stored.is at c.requires

pub returns-in-Untouched : goal.returns-in-Untouched
returns-in-Untouched c =
    let t0 = c.in-Untouched.is in
    simp (t0)

pub returns-in-Stored : goal.returns-in-Stored
returns-in-Stored c =
    let t0 = c.in-Stored.is in
    simp (c.finite_bits.ensures, t0)

pub returns-in-Refused : goal.returns-in-Refused
returns-in-Refused c =
    let t0 = c.in-Refused.is in
    simp (t0)
