-- `plasticity_nacc::NaccPlasticity::projection_inputs` answers `project_inputs self f u sigma vt alpha`.
use Rattle.std.proofs.Common.{rules}
use Rattle.plasticity_nacc.proofs.NaccPlasticity.projection_inputs.Goals as goal

pub parameters_finite-requires : goal.parameters_finite-requires
parameters_finite-requires c = search rules

pub mat_finite-requires : goal.mat_finite-requires
mat_finite-requires c = search rules

pub mat_finite-requires-2 : goal.mat_finite-requires-2
mat_finite-requires-2 c = search rules

pub row_finite-requires : goal.row_finite-requires
row_finite-requires c = search rules

pub mat_finite-requires-3 : goal.mat_finite-requires-3
mat_finite-requires-3 c = search rules

pub is_finite-requires : goal.is_finite-requires
is_finite-requires c = search rules

pub returns : goal.returns
returns c =
    simp (c.is_finite.ensures, c.mat_finite-3.ensures, c.row_finite.ensures, c.mat_finite-2.ensures, c.mat_finite.ensures, c.parameters_finite.ensures)
