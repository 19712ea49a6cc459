-- `plasticity_drucker_prager::DruckerPragerPlasticity::parameters_finite` answers `parameters_finite self`.
use Rattle.std.proofs.Common.{rules}
use Rattle.plasticity_drucker_prager.proofs.DruckerPragerPlasticity.parameters_finite.Goals as goal

pub is_finite-requires : goal.is_finite-requires
is_finite-requires c = search rules

pub is_finite-requires-2 : goal.is_finite-requires-2
is_finite-requires-2 c = search rules

pub is_finite-requires-3 : goal.is_finite-requires-3
is_finite-requires-3 c = search rules

pub is_finite-requires-4 : goal.is_finite-requires-4
is_finite-requires-4 c = search rules

pub is_finite-requires-5 : goal.is_finite-requires-5
is_finite-requires-5 c = search rules

pub is_finite-requires-6 : goal.is_finite-requires-6
is_finite-requires-6 c = search rules

pub is_finite-requires-7 : goal.is_finite-requires-7
is_finite-requires-7 c = search rules

pub returns : goal.returns
returns c =
    simp (c.is_finite-7.ensures, c.is_finite-6.ensures, c.is_finite-5.ensures, c.is_finite-4.ensures, c.is_finite-3.ensures, c.is_finite-2.ensures, c.is_finite.ensures)
