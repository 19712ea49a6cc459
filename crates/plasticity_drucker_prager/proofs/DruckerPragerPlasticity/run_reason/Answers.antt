-- `plasticity_drucker_prager::DruckerPragerPlasticity::run_reason` answers `reason_of (run_walk self u vt s)`.
use Rattle.plasticity_drucker_prager.proofs.Told.{run_told}
use Rattle.plasticity_drucker_prager.proofs.DruckerPragerPlasticity.run_reason.Goals as goal

pub returns-then-stays : goal.returns-then-stays
returns-then-stays c =
    let t0 = simp c.stays.ensures at c.if-stays.true in
    simp (run_told, t0)

pub returns-in-Value : goal.returns-in-Value
returns-in-Value c =
    let t0 = simp c.alpha_on_path.ensures at c.in-Value.is in
    let t1 = simp c.stays.ensures at c.if-stays.false in
    simp (c.project_reason.ensures, run_told, t0, t1)

pub returns-in-Refused : goal.returns-in-Refused
returns-in-Refused c =
    let t0 = simp c.alpha_on_path.ensures at c.in-Refused.is in
    let t1 = simp c.stays.ensures at c.if-stays.false in
    simp (run_told, t0, t1)
