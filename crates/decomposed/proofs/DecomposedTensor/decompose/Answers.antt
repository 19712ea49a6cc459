-- `decomposed::DecomposedTensor::decompose` answers `given_tensor (mat_finite m) (answered_tensor (decompose_of m))`.
use Rattle.decomposed.proofs.DecomposedTensor.decompose.Goals as goal

pub returns-then-mat_finite : goal.returns-then-mat_finite
returns-then-mat_finite c =
    let t0 = simp c.mat_finite.ensures at c.if-mat_finite.true in
    simp (c.answered_tensor.ensures, c.decompose.ensures, t0)

pub returns-else-mat_finite : goal.returns-else-mat_finite
returns-else-mat_finite c =
    let t0 = simp c.mat_finite.ensures at c.if-mat_finite.false in
    simp (c.refused_tensor.ensures, t0)
