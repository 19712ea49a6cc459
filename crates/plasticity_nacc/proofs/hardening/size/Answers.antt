-- `plasticity_nacc::hardening::size` answers `size_of x`.
use Rattle.plasticity_nacc.proofs.hardening.size.Goals as goal

pub returns-then-x : goal.returns-then-x
returns-then-x c =
    let t0 = c.if-x.true in
    simp (t0)

pub returns-else-x : goal.returns-else-x
returns-else-x c =
    let t0 = c.if-x.false in
    simp (t0)
