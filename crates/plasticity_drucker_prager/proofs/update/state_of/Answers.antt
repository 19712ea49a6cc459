-- `plasticity_drucker_prager::update::state_of` answers `state_of f sigma d hardening gain s`.
use Rattle.plasticity_drucker_prager.proofs.update.state_of.Goals as goal

pub returns : goal.returns
returns c =
    simp (c.scalars_of.ensures, c.to_rows.ensures)
