-- `plasticity_drucker_prager::DruckerPragerPlasticity::project_reason` answers `reason_of (follow_walk self sigma alpha u vt s)`.
use Rattle.std.proofs.Common.{rules}
use Rattle.plasticity_drucker_prager.proofs.Told.{follow_told}
use Rattle.plasticity_drucker_prager.proofs.DruckerPragerPlasticity.project_reason.Goals as goal

pub returns : goal.returns
returns c =
    let a = c.args in
    let law = follow_told a.self a.u a.vt a.s a.sigma a.alpha (search rules) in
    simp (c.branch_reason.ensures, c.projected-q.ensures, law)
