-- `plasticity_nacc::arguments::framed` answers `framed_of p m`.
use Rattle.plasticity_nacc.specs.Friction.{framed_of}
use Rattle.std.proofs.Common.{rules}
use Rattle.plasticity_nacc.proofs.arguments.framed.Goals as goal

pub enum_known-m : goal.enum_known-m
enum_known-m c = search rules

pub enum_known-m-in-Refused-1 : goal.enum_known-m-in-Refused-1
enum_known-m-in-Refused-1 c = search rules

pub returns-in-Value : goal.returns-in-Value
unfolding framed_of
returns-in-Value c =
    let t0 = c.in-Value.is in
    simp (t0)

pub returns-in-Refused : goal.returns-in-Refused
unfolding framed_of
returns-in-Refused c =
    let t0 = c.in-Refused.is in
    simp (t0)
