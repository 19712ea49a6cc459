-- `plasticity_nacc::update::state_of` answers `state_of f sigma alpha s`.
use Rattle.plasticity_nacc.proofs.update.state_of.Goals as goal

pub returns : goal.returns
returns c = simp c.scalars_of.ensures
