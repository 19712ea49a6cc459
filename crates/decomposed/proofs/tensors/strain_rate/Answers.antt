-- `decomposed::tensors::strain_rate` answers `given_matrix (mat_finite m) (answered (strain_rate_of m))`.
use Rattle.decomposed.proofs.tensors.strain_rate.Goals as goal

pub returns-then-mat_finite : goal.returns-then-mat_finite
returns-then-mat_finite c =
    let t0 = simp c.mat_finite.ensures at c.if-mat_finite.true in
    simp (c.answered.ensures, c.strain_rate.ensures, t0)

pub returns-else-mat_finite : goal.returns-else-mat_finite
returns-else-mat_finite c =
    let t0 = simp c.mat_finite.ensures at c.if-mat_finite.false in
    simp (c.refused_matrix.ensures, t0)
