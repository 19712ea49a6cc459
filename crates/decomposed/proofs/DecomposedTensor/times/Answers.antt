-- `decomposed::DecomposedTensor::times` answers `given_vector (tensor_finite self && row_finite v) (answered_vector (times_of self v))`.
use Rattle.decomposed.proofs.DecomposedTensor.times.Goals as goal

pub returns-then-tensor_finite-row_finite : goal.returns-then-tensor_finite-row_finite
returns-then-tensor_finite-row_finite c =
    let t0 = simp (c.row_finite.ensures, c.tensor_finite.ensures) at c.if-tensor_finite-row_finite.true in
    simp (c.answered_vector.ensures, c.times.ensures, t0)

pub returns-else-tensor_finite-row_finite : goal.returns-else-tensor_finite-row_finite
returns-else-tensor_finite-row_finite c =
    let t0 = simp (c.row_finite.ensures, c.tensor_finite.ensures) at c.if-tensor_finite-row_finite.false in
    simp (c.refused_vector.ensures, t0)
