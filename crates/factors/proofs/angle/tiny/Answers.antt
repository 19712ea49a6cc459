-- `factors::angle::tiny` meets its contract. Assumes nothing.
use Rattle.factors.specs.Turns.{tiny_of}
use Rattle.factors.proofs.angle.tiny.Goals as goal

pub returns : goal.returns
unfolding tiny_of
returns c =
    simp c.size.ensures
