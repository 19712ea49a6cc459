-- `tensor::answer::answered` answers `answered m`.
use Rattle.tensor.specs.Answer.{answered}
use Rattle.tensor.proofs.answer.answered.Goals as goal

pub returns-then-mat_finite : goal.returns-then-mat_finite
unfolding answered
returns-then-mat_finite c =
    let t0 = simp c.mat_finite.ensures at c.if-mat_finite.true in
    simp (c.to_rows-rows.ensures, t0)

pub returns-else-mat_finite : goal.returns-else-mat_finite
unfolding answered
returns-else-mat_finite c =
    let t0 = simp c.mat_finite.ensures at c.if-mat_finite.false in
    simp (c.refused_matrix.ensures, t0)
