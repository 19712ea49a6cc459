-- `plasticity::inputs_finite` answers `inputs_finite u vt s`.
use Rattle.plasticity.proofs.inputs_finite.Goals as goal

pub returns : goal.returns
returns c =
    simp (c.state_finite.ensures, c.mat_finite-2.ensures, c.mat_finite.ensures)
