-- `tensor::answer::answered_vector` answers `answered_vector v`.
use Rattle.tensor.specs.Answer.{answered_vector}
use Rattle.tensor.proofs.answer.answered_vector.Goals as goal

pub returns-then-row_finite : goal.returns-then-row_finite
unfolding answered_vector
returns-then-row_finite c =
    let t0 = simp c.row_finite.ensures at c.if-row_finite.true in
    simp (t0)

pub returns-else-row_finite : goal.returns-else-row_finite
unfolding answered_vector
returns-else-row_finite c =
    let t0 = simp c.row_finite.ensures at c.if-row_finite.false in
    simp (c.refused_vector.ensures, t0)
