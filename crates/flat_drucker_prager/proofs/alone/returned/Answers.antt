-- `flat_drucker_prager::alone::returned` answers `returned_of q.outcome q.sigma`.
use Rattle.flat_drucker_prager.proofs.alone.returned.Goals as goal

pub returns-then-row_finite : goal.returns-then-row_finite
returns-then-row_finite c =
    let t0 = simp c.row_finite.ensures at c.if-row_finite.true in
    simp (c.in-Untouched.is, t0)

pub returns-else-row_finite : goal.returns-else-row_finite
returns-else-row_finite c =
    let t0 = simp c.row_finite.ensures at c.if-row_finite.false in
    simp (c.refused_projection.ensures, c.in-Untouched.is, t0)

pub returns-then-row_finite-is_finite : goal.returns-then-row_finite-is_finite
returns-then-row_finite-is_finite c =
    let t0 = simp (c.is_finite.ensures, c.row_finite-in-Stored.ensures) at c.if-row_finite-is_finite.true in
    simp (c.in-Stored.is, t0)

pub returns-else-row_finite-is_finite : goal.returns-else-row_finite-is_finite
returns-else-row_finite-is_finite c =
    let t0 = simp (c.is_finite.ensures, c.row_finite-in-Stored.ensures) at c.if-row_finite-is_finite.false in
    simp (c.refused_projection-else-row_finite-is_finite.ensures, c.in-Stored.is, t0)

pub returns-in-Refused : goal.returns-in-Refused
returns-in-Refused c =
    simp c.in-Refused.is
