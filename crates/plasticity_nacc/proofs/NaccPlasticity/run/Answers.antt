-- `plasticity_nacc::NaccPlasticity::run` answers `updated_of s (result (run_walk self u vt s))`.
use Rattle.plasticity_nacc.proofs.Laws.{run_law}
use Rattle.plasticity_nacc.proofs.NaccPlasticity.run.Goals as goal

pub returns : goal.returns
returns c =
    simp (c.stored.ensures, c.project.ensures, run_law)
