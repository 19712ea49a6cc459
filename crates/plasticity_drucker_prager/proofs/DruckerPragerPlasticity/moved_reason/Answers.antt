-- `plasticity_drucker_prager::DruckerPragerPlasticity::moved_reason` answers `why told (moved_walk self sigma dq u vt s)`.
use Rattle.plasticity_drucker_prager.proofs.Told.{moved_told}
use Rattle.plasticity_drucker_prager.proofs.DruckerPragerPlasticity.moved_reason.Goals as goal

pub returns-then-finite_results : goal.returns-then-finite_results
returns-then-finite_results c =
    let t0 = simp (c.measured.ensures, c.product-2.ensures, c.product.ensures) at c.in-Values.is in
    let t1 = simp (c.finite_results.ensures, c.recompose-f.ensures) at c.if-finite_results.true in
    simp (moved_told, t0, t1)

pub returns-else-finite_results : goal.returns-else-finite_results
returns-else-finite_results c =
    let t0 = simp (c.measured.ensures, c.product-2.ensures, c.product.ensures) at c.in-Values.is in
    let t1 = simp (c.finite_results.ensures, c.recompose-f.ensures) at c.if-finite_results.false in
    simp (moved_told, t0, t1)

pub returns-in-Refused : goal.returns-in-Refused
returns-in-Refused c =
    let t0 = simp (c.measured.ensures, c.product-2.ensures, c.product.ensures) at c.in-Refused.is in
    simp (moved_told, t0)
