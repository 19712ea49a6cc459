-- `factors::answer::factored` meets its contract. Assumes nothing.
use Rattle.factors.specs.Answers.{factored_of}
use Rattle.factors.proofs.answer.factored.Goals as goal

pub returns-then-accepted : goal.returns-then-accepted
unfolding factored_of
returns-then-accepted c =
    let t0 = simp (c.accepted.ensures, c.factors_of-x.ensures) at c.if-accepted.true in
    simp (c.accepted.ensures, c.factors_of-x.ensures, t0)

pub returns-else-accepted : goal.returns-else-accepted
unfolding factored_of
returns-else-accepted c =
    let t0 = simp (c.accepted.ensures, c.factors_of-x.ensures) at c.if-accepted.false in
    simp (c.refused_factors.ensures, c.accepted.ensures, c.factors_of-x.ensures, t0)
