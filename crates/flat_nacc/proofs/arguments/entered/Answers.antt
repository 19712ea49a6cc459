-- `flat_nacc::arguments::entered` answers `entered_of a made`.
use Rattle.flat_nacc.specs.Angle.{entered_of}
use Rattle.flat_nacc.proofs.arguments.entered.Goals as goal

pub returns-in-Law : goal.returns-in-Law
unfolding entered_of
returns-in-Law c =
    let t0 = c.in-Law.is in
    simp (c.framed.ensures, c.friction_on_path.ensures, t0)

pub returns-in-Refused : goal.returns-in-Refused
unfolding entered_of
returns-in-Refused c =
    let t0 = c.in-Refused.is in
    simp (t0)
