-- The moduli, then the law.
use Rattle.elasticity_neo_hookean.specs.Law.{from_lame}
use Rattle.elasticity_neo_hookean.proofs.from_lame.Goals as goal

pub returns-then-is_finite : goal.returns-then-is_finite
unfolding from_lame
returns-then-is_finite c =
    let t0 = simp (c.is_finite-2.ensures, c.is_finite.ensures) at c.if-is_finite.true in
    simp (c.law.ensures, c.is_finite-2.ensures, c.is_finite.ensures, t0)

pub returns-else-is_finite : goal.returns-else-is_finite
unfolding from_lame
returns-else-is_finite c =
    let t0 = simp (c.is_finite-2.ensures, c.is_finite.ensures) at c.if-is_finite.false in
    simp (c.is_finite-2.ensures, c.is_finite.ensures, t0)
