-- `decomposed::decomposed::answered_tensor` answers `answered_tensor t`.
use Rattle.decomposed.specs.Decomposed.{answered_tensor}
use Rattle.decomposed.proofs.decomposed.answered_tensor.Goals as goal

pub returns-then-tensor_finite : goal.returns-then-tensor_finite
unfolding answered_tensor
returns-then-tensor_finite c =
    let t0 = simp c.tensor_finite.ensures at c.if-tensor_finite.true in
    simp (t0)

pub returns-else-tensor_finite : goal.returns-else-tensor_finite
unfolding answered_tensor
returns-else-tensor_finite c =
    let t0 = simp c.tensor_finite.ensures at c.if-tensor_finite.false in
    simp (c.refused_tensor.ensures, t0)
