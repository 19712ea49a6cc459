-- `decomposed::DecomposedTensor::add` answers `given_tensor (tensor_finite self && tensor_finite rhs) (answered_tensor (sum_of self rhs))`.
use Rattle.decomposed.proofs.DecomposedTensor.add.Goals as goal

pub returns-then-tensor_finite : goal.returns-then-tensor_finite
returns-then-tensor_finite c =
    let t0 = simp (c.tensor_finite-2.ensures, c.tensor_finite.ensures) at c.if-tensor_finite.true in
    simp (c.answered_tensor.ensures, c.add.ensures, t0)

pub returns-else-tensor_finite : goal.returns-else-tensor_finite
returns-else-tensor_finite c =
    let t0 = simp (c.tensor_finite-2.ensures, c.tensor_finite.ensures) at c.if-tensor_finite.false in
    simp (c.refused_tensor.ensures, t0)
