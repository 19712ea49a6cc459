-- `factors::answer::principals` meets its contract. Assumes nothing.
use Rattle.factors.specs.Answers.{principals_of}
use Rattle.factors.proofs.answer.principals.Goals as goal

pub returns-then-principal_accepted : goal.returns-then-principal_accepted
unfolding principals_of
returns-then-principal_accepted c =
    let t0 = simp (c.principal_accepted.ensures, c.principal_of-x.ensures) at c.if-principal_accepted.true in
    simp (c.principal_accepted.ensures, c.principal_of-x.ensures, t0)

pub returns-else-principal_accepted : goal.returns-else-principal_accepted
unfolding principals_of
returns-else-principal_accepted c =
    let t0 = simp (c.principal_accepted.ensures, c.principal_of-x.ensures) at c.if-principal_accepted.false in
    simp (c.refused_vector.ensures, c.principal_accepted.ensures, c.principal_of-x.ensures, t0)
