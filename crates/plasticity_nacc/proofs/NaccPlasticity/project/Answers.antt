-- `plasticity_nacc::NaccPlasticity::project` answers `walked_of (traced (project_walk self f u sigma vt alpha))`.
use Rattle.plasticity_nacc.proofs.Laws.{project_law}
use Rattle.plasticity_nacc.proofs.NaccPlasticity.project.Goals as goal

pub returns : goal.returns
returns c = simp (c.projected.ensures, c.steps.ensures, project_law)
