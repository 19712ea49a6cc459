-- The outcome is that of the branch.
use Rattle.std.proofs.Common.{rules}
use Rattle.plasticity_drucker_prager.proofs.projection.handed_out.Goals as goal

pub outcome_of-outcome-requires : goal.outcome_of-outcome-requires
outcome_of-outcome-requires c = search rules

pub returns : goal.returns
returns c = simp c.outcome_of-outcome.ensures
