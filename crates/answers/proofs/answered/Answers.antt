-- `answers::answered` answers `answered_of x`.
use Rattle.answers.proofs.answered.Goals as goal

pub returns-then-is_finite : goal.returns-then-is_finite
returns-then-is_finite c =
    let t0 = simp c.is_finite.ensures at c.if-is_finite.true in
    simp (c.is_finite.ensures, t0)

pub returns-else-is_finite : goal.returns-else-is_finite
returns-else-is_finite c =
    let t0 = simp c.is_finite.ensures at c.if-is_finite.false in
    simp (c.is_finite.ensures, t0)
