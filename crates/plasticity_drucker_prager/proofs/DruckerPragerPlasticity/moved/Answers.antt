-- `plasticity_drucker_prager::DruckerPragerPlasticity::moved` answers `updated_of s (result (moved_walk self sigma dq u vt s))`.
use Rattle.walk.specs.Update.{in_three}
use Rattle.plasticity_drucker_prager.proofs.Laws.{moved_law, store_law}
use Rattle.plasticity_drucker_prager.proofs.DruckerPragerPlasticity.moved.Goals as goal

pub returns-in-Values : goal.returns-in-Values
returns-in-Values c =
    let t0 = simp (c.measured.ensures, c.product-2.ensures, c.product.ensures) at c.in-Values.is in
    simp (c.store.ensures, store_law, moved_law in_three, t0)

pub returns-in-Refused : goal.returns-in-Refused
returns-in-Refused c =
    let t0 = simp (c.measured.ensures, c.product-2.ensures, c.product.ensures) at c.in-Refused.is in
    simp (c.refuse.ensures, moved_law in_three, t0)
