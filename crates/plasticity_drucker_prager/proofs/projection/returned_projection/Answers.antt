-- `plasticity_drucker_prager::projection::returned_projection` answers `returned_of q`.
use Rattle.std.proofs.Common.{rules}
use Rattle.plasticity_drucker_prager.proofs.projection.returned_projection.Goals as goal

pub row_finite-requires : goal.row_finite-requires
row_finite-requires c = search rules

pub is_finite-requires : goal.is_finite-requires
is_finite-requires c = search rules

pub refused_projection-requires : goal.refused_projection-requires
refused_projection-requires c = search rules

pub returns-then-row_finite-is_finite : goal.returns-then-row_finite-is_finite
returns-then-row_finite-is_finite c =
    let t0 = simp (c.is_finite.ensures, c.row_finite.ensures) at c.if-row_finite-is_finite.true in
    simp (t0)

pub returns-else-row_finite-is_finite : goal.returns-else-row_finite-is_finite
returns-else-row_finite-is_finite c =
    let t0 = simp (c.is_finite.ensures, c.row_finite.ensures) at c.if-row_finite-is_finite.false in
    simp (c.refused_projection.ensures, t0)
