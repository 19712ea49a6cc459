-- `flat_drucker_prager::projection::tip` answers `tip_of (norm_of e)`.
use Rattle.flat_drucker_prager.proofs.projection.tip.Goals as goal

pub returns-in-Value : goal.returns-in-Value
returns-in-Value c =
    let t0 = simp c.norm.ensures at c.in-Value.is in
    simp (t0)

pub returns-in-Refused : goal.returns-in-Refused
returns-in-Refused c =
    let t0 = simp c.norm.ensures at c.in-Refused.is in
    simp (c.refused_projection.ensures, t0)
