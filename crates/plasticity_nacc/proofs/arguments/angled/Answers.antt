-- `plasticity_nacc::arguments::angled` answers `angled_of dim made`.
use Rattle.plasticity_nacc.specs.Friction.{angled_of}
use Rattle.std.proofs.Common.{rules}
use Rattle.plasticity_nacc.proofs.arguments.angled.Goals as goal

pub enum_known-made : goal.enum_known-made
enum_known-made c = search rules

pub friction_on_path-requires : goal.friction_on_path-requires
friction_on_path-requires c = search rules

pub framed-requires : goal.framed-requires
framed-requires c = search rules

pub enum_known-made-in-Refused-1 : goal.enum_known-made-in-Refused-1
enum_known-made-in-Refused-1 c = search rules

pub returns-in-Law : goal.returns-in-Law
unfolding angled_of
returns-in-Law c =
    let t0 = c.in-Law.is in
    simp (c.framed.ensures, c.friction_on_path.ensures, t0)

pub returns-in-Refused : goal.returns-in-Refused
unfolding angled_of
returns-in-Refused c =
    let t0 = c.in-Refused.is in
    simp (t0)
