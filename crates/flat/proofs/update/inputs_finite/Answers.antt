-- `flat::update::inputs_finite` answers `inputs_finite u vt s`.
use Rattle.flat.proofs.update.inputs_finite.Goals as goal

pub returns : goal.returns
returns c =
    simp (c.mat_finite-2.ensures, c.mat_finite.ensures, c.scalars_finite.ensures, c.row_finite.ensures, c.rows_finite.ensures)
