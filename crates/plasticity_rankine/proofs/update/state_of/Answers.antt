-- The new state, field by field.
use Rattle.plasticity_rankine.proofs.update.state_of.Goals as goal

pub returns : goal.returns
returns c =
    simp c.to_rows.ensures
