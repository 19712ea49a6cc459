-- The outcome is that of the branch.
use Rattle.plasticity_nacc.proofs.update.handed_out.Goals as goal

pub returns : goal.returns
returns c = simp c.outcome_of-outcome.ensures
