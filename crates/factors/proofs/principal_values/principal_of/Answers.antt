-- `factors::principal_values::principal_of` meets its contract. Assumes nothing.
use Rattle.factors.specs.PrincipalValues.{principal_of}
use Rattle.factors.proofs.principal_values.principal_of.Goals as goal

pub returns : goal.returns
unfolding principal_of
returns c =
    simp (c.levelled-w.ensures, c.mirrored.ensures)
