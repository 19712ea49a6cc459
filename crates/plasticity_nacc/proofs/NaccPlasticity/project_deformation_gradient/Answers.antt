-- What is worked with its branch is handed out without it.
use Rattle.plasticity_nacc.proofs.Laws.{results_law}
use Rattle.plasticity_nacc.proofs.NaccPlasticity.project_deformation_gradient.Goals as goal

pub returns : goal.returns
returns c = simp (c.handed_out.ensures, c.projected_by_itself.ensures, results_law)
