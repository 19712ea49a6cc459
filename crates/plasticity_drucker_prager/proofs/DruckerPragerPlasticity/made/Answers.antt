-- `plasticity_drucker_prager::DruckerPragerPlasticity::made` answers `made_of moduli`.
use Rattle.plasticity_drucker_prager.specs.Law.{made_of}
use Rattle.std.proofs.Common.{rules}
use Rattle.plasticity_drucker_prager.proofs.DruckerPragerPlasticity.made.Goals as goal

pub enum_known-moduli : goal.enum_known-moduli
enum_known-moduli c = search rules

pub with_moduli-requires : goal.with_moduli-requires
with_moduli-requires c = search rules

pub enum_known-moduli-in-Refused-1 : goal.enum_known-moduli-in-Refused-1
enum_known-moduli-in-Refused-1 c = search rules

pub returns-in-Values : goal.returns-in-Values
unfolding made_of
returns-in-Values c =
    let t0 = c.in-Values.is in
    simp (c.with_moduli.ensures, t0)

pub returns-in-Refused : goal.returns-in-Refused
unfolding made_of
returns-in-Refused c =
    let t0 = c.in-Refused.is in
    simp (t0)
