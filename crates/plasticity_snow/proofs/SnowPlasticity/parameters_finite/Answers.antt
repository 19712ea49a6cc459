-- `plasticity_snow::SnowPlasticity::parameters_finite` answers `parameters_finite self`.
use Rattle.plasticity_snow.proofs.SnowPlasticity.parameters_finite.Goals as goal

pub returns : goal.returns
returns c =
    simp (c.is_finite-3.ensures, c.is_finite-2.ensures, c.is_finite.ensures)
