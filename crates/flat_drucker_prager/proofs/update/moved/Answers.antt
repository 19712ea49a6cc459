-- `flat_drucker_prager::update::moved` answers `updated_of s (result (moved_walk p sigma dq u vt s))`.
use Rattle.plasticity_drucker_prager.proofs.Laws.{moved_law}
use Rattle.flat.specs.Update.{in_two}
use Rattle.flat_drucker_prager.proofs.update.moved.Goals as goal

pub returns-in-Values : goal.returns-in-Values
returns-in-Values c =
    let t0 = simp (c.measured.ensures, c.product-2.ensures, c.product.ensures) at c.in-Values.is in
    simp (c.stored.ensures, c.scalars_of-scalars.ensures, c.is_finite-in-Values-2.ensures, c.is_finite-in-Values.ensures, c.is_finite.ensures, moved_law in_two, t0)

pub returns-in-Refused : goal.returns-in-Refused
returns-in-Refused c =
    let t0 = simp (c.measured.ensures, c.product-2.ensures, c.product.ensures) at c.in-Refused.is in
    simp (c.refuse.ensures, moved_law in_two, t0)
