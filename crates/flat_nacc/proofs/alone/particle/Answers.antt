-- `flat_nacc::alone::particle` answers `particle_of f sigma alpha`.
use Rattle.flat_nacc.proofs.alone.particle.Goals as goal

pub returns : goal.returns
returns c =
    simp c.to_rows.ensures
