-- `plasticity_nacc::NaccArguments::parameters_finite` answers `arguments_finite self`.
use Rattle.std.proofs.Common.{rules}
use Rattle.plasticity_nacc.proofs.NaccArguments.parameters_finite.Goals as goal

pub elastic_finite-requires : goal.elastic_finite-requires
elastic_finite-requires c = search rules

pub is_finite-requires : goal.is_finite-requires
is_finite-requires c = search rules

pub is_finite-requires-2 : goal.is_finite-requires-2
is_finite-requires-2 c = search rules

pub is_finite-requires-3 : goal.is_finite-requires-3
is_finite-requires-3 c = search rules

pub returns : goal.returns
returns c =
    simp (c.is_finite-3.ensures, c.is_finite-2.ensures, c.is_finite.ensures, c.elastic_finite.ensures)
