-- `plasticity_rankine::RankinePlasticity::moduli_finite` answers `moduli_finite self`.
use Rattle.plasticity_rankine.proofs.RankinePlasticity.moduli_finite.Goals as goal

pub returns : goal.returns
returns c =
    simp (c.is_finite-2.ensures, c.is_finite.ensures)
