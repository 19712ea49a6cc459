-- `flat_nacc::alone::project_deformation_gradient` answers `project_of a f u sigma vt alpha`.
use Rattle.flat_nacc.proofs.alone.project_deformation_gradient.Goals as goal

pub returns : goal.returns
returns c =
    simp (c.handed_out.ensures, c.update_particle.ensures, c.particle.ensures)
