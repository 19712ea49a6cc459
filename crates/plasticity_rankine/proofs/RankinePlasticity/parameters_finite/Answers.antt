-- `plasticity_rankine::RankinePlasticity::parameters_finite` answers `parameters_finite self`.
use Rattle.plasticity_rankine.proofs.RankinePlasticity.parameters_finite.Goals as goal

pub returns : goal.returns
returns c =
    simp (c.is_finite-2.ensures, c.is_finite.ensures)
