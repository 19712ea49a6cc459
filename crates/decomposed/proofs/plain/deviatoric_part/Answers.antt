-- `decomposed::plain::deviatoric_part` answers `deviatoric_of m`.
use Rattle.decomposed.proofs.plain.deviatoric_part.Goals as goal

pub returns : goal.returns
returns c =
    simp (c.less_diagonal.ensures, c.spherical_part.ensures)
