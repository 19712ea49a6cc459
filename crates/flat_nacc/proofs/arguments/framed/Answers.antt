-- `flat_nacc::arguments::framed` answers `framed_of a m`.
use Rattle.flat_nacc.specs.Angle.{framed_of}
use Rattle.flat_nacc.proofs.arguments.framed.Goals as goal

pub returns-in-Value : goal.returns-in-Value
unfolding framed_of
returns-in-Value c =
    let t0 = c.in-Value.is in
    simp (t0)

pub returns-in-Refused : goal.returns-in-Refused
unfolding framed_of
returns-in-Refused c =
    let t0 = c.in-Refused.is in
    simp (t0)
