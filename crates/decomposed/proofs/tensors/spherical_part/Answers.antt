-- `decomposed::tensors::spherical_part` answers `given (mat_finite m) (answered_of (spherical_of m))`.
use Rattle.decomposed.proofs.tensors.spherical_part.Goals as goal

pub returns-then-mat_finite : goal.returns-then-mat_finite
returns-then-mat_finite c =
    let t0 = simp c.mat_finite.ensures at c.if-mat_finite.true in
    simp (c.answered.ensures, c.spherical_part.ensures, t0)

pub returns-else-mat_finite : goal.returns-else-mat_finite
returns-else-mat_finite c =
    let t0 = simp c.mat_finite.ensures at c.if-mat_finite.false in
    simp (t0)
