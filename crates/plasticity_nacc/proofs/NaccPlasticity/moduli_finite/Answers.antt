-- `plasticity_nacc::NaccPlasticity::moduli_finite` answers `moduli_finite self`.
use Rattle.std.proofs.Common.{rules}
use Rattle.plasticity_nacc.proofs.NaccPlasticity.moduli_finite.Goals as goal

pub is_finite-requires : goal.is_finite-requires
is_finite-requires c = search rules

pub is_finite-requires-2 : goal.is_finite-requires-2
is_finite-requires-2 c = search rules

pub returns : goal.returns
returns c =
    simp (c.is_finite-2.ensures, c.is_finite.ensures)
