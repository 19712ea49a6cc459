-- `plasticity_drucker_prager::DruckerPragerPlasticity::corrected` answers `corrected_of self prev grown diff`.
use Rattle.plasticity_drucker_prager.proofs.DruckerPragerPlasticity.corrected.Goals as goal

pub returns-then-diff : goal.returns-then-diff
returns-then-diff c =
    let t0 = c.if-diff.true in
    simp (t0)

pub returns-else-diff : goal.returns-else-diff
returns-else-diff c =
    let t0 = c.if-diff.false in
    simp (t0)
