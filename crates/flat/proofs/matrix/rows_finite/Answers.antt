-- `flat::matrix::rows_finite` answers `rows_finite m`.
use Rattle.flat.proofs.matrix.rows_finite.Goals as goal

pub returns : goal.returns
returns c =
    simp (c.row_finite-2.ensures, c.row_finite.ensures)
