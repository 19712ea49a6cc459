-- `decomposed::inverse::mat_over` answers `mat_over_of m d`.
use Rattle.decomposed.specs.Inverse.{mat_over_of}
use Rattle.decomposed.proofs.inverse.mat_over.Goals as goal

pub returns : goal.returns
unfolding mat_over_of
returns c =
    simp (c.row_over-3.ensures, c.row_over-2.ensures, c.row_over.ensures)
