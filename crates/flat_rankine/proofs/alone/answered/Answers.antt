-- `flat_rankine::alone::answered` answers `answered_of e`.
use Rattle.flat_rankine.proofs.alone.answered.Goals as goal

pub returns-then-row_finite : goal.returns-then-row_finite
returns-then-row_finite c =
    let t0 = simp c.row_finite.ensures at c.if-row_finite.true in
    simp (t0)

pub returns-else-row_finite : goal.returns-else-row_finite
returns-else-row_finite c =
    let t0 = simp c.row_finite.ensures at c.if-row_finite.false in
    simp (t0)
