-- `flat::update::stored` answers `kept_of u sigma vt named scalars amount s`.
use Rattle.flat.proofs.update.stored.Goals as goal

pub returns-then-mat_finite-row_finite : goal.returns-then-mat_finite-row_finite
returns-then-mat_finite-row_finite c =
    let t0 = simp (c.row_finite.ensures, c.mat_finite.ensures, c.recompose-f.ensures) at c.if-mat_finite-row_finite.true in
    simp (c.to_rows.ensures, c.row_finite.ensures, c.mat_finite.ensures, c.recompose-f.ensures, t0)

pub returns-else-mat_finite-row_finite : goal.returns-else-mat_finite-row_finite
returns-else-mat_finite-row_finite c =
    let t0 = simp (c.row_finite.ensures, c.mat_finite.ensures, c.recompose-f.ensures) at c.if-mat_finite-row_finite.false in
    simp (c.refuse.ensures, c.row_finite.ensures, c.mat_finite.ensures, c.recompose-f.ensures, t0)
