-- `decomposed::DecomposedTensor::recompose` answers `given_matrix (tensor_finite self) (answered (recomposed_of self))`.
use Rattle.decomposed.proofs.DecomposedTensor.recompose.Goals as goal

pub returns-then-tensor_finite : goal.returns-then-tensor_finite
returns-then-tensor_finite c =
    let t0 = simp c.tensor_finite.ensures at c.if-tensor_finite.true in
    simp (c.answered.ensures, c.recompose.ensures, t0)

pub returns-else-tensor_finite : goal.returns-else-tensor_finite
returns-else-tensor_finite c =
    let t0 = simp c.tensor_finite.ensures at c.if-tensor_finite.false in
    simp (c.refused_matrix.ensures, t0)
