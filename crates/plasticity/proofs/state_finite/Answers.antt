-- `plasticity::state_finite` answers `state_finite s`.
use Rattle.plasticity.proofs.state_finite.Goals as goal

pub returns : goal.returns
returns c =
    simp (c.scalars_finite.ensures, c.row_finite.ensures, c.rows_finite.ensures)
