-- `decomposed::decomposed::tensor_finite` answers `tensor_finite t`.
use Rattle.decomposed.proofs.decomposed.tensor_finite.Goals as goal

pub returns : goal.returns
returns c =
    simp (c.is_finite.ensures, c.rows_finite.ensures)
