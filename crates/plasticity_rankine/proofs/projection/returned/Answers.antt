-- The strains, or the refusal that the branch carries.
use Rattle.plasticity_rankine.proofs.projection.returned.Goals as goal

pub returns-in-Untouched : goal.returns-in-Untouched
returns-in-Untouched c =
    simp (c.answered_vector.ensures, c.in-Untouched.is)

pub returns-in-One : goal.returns-in-One
returns-in-One c =
    simp (c.answered_vector-in-One.ensures, c.in-One.is)

pub returns-in-Two : goal.returns-in-Two
returns-in-Two c =
    simp (c.answered_vector-in-Two.ensures, c.in-Two.is)

pub returns-in-All : goal.returns-in-All
returns-in-All c =
    simp (c.answered_vector-in-All.ensures, c.in-All.is)

pub returns-in-Refused : goal.returns-in-Refused
returns-in-Refused c =
    simp (c.refused_vector.ensures, c.in-Refused.is)
