-- `decomposed::inverse::cofactors` answers `cofactors_of m`.
use Rattle.decomposed.specs.Inverse.{cofactors_of}
use Rattle.decomposed.proofs.inverse.cofactors.Goals as goal

pub returns : goal.returns
unfolding cofactors_of
returns c =
    simp (c.cofactor_row-3.ensures, c.cofactor_row-2.ensures, c.cofactor_row.ensures)
