-- `plasticity_snow::state_of` answers `state_of f sigma (scalars_of d hardening s.scalars)`.
use Rattle.plasticity_snow.proofs.state_of.Goals as goal

pub returns : goal.returns
returns c =
    simp c.to_rows.ensures
