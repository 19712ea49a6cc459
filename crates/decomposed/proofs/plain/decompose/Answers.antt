-- `decomposed::plain::decompose` answers `decompose_of m`.
use Rattle.decomposed.specs.Decomposed.{decompose_of}
use Rattle.decomposed.proofs.plain.decompose.Goals as goal

pub returns : goal.returns
unfolding decompose_of
returns c =
    simp (c.to_rows-d.ensures, c.less_diagonal.ensures, c.spherical_part-s.ensures)
