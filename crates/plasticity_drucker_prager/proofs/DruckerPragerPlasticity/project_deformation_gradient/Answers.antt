-- What is worked with its branch is handed out without it.
use Rattle.std.proofs.Common.{rules}
use Rattle.plasticity_drucker_prager.proofs.Laws.{results_law}
use Rattle.plasticity_drucker_prager.proofs.DruckerPragerPlasticity.project_deformation_gradient.Goals as goal

pub projected_by_itself-requires : goal.projected_by_itself-requires
projected_by_itself-requires c = search rules

pub handed_out-requires : goal.handed_out-requires
handed_out-requires c = search rules

pub returns : goal.returns
returns c = simp (c.handed_out.ensures, c.projected_by_itself.ensures, results_law)
