-- `decomposed::plain::spherical_part` answers `spherical_of m`.
use Rattle.decomposed.proofs.plain.spherical_part.Goals as goal

pub returns : goal.returns
returns c =
    simp c.trace.ensures
