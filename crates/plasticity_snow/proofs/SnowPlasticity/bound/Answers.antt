-- The later step first.
use borrow.Author.Tests.{eq-eqb, ne_eqb}
use Rattle.plasticity_snow.specs.Reason.{bound_of}
use Rattle.plasticity_snow.proofs.SnowPlasticity.bound.Goals as goal

pub returns-then-raised-bits_of : goal.returns-then-raised-bits_of
unfolding bound_of
returns-then-raised-bits_of c =
    let t0 = simp (c.bits_of.ensures, c.clamp.ensures, c.bits_of-raised.ensures, c.max.ensures) at c.if-bits_of-raised.true in
    let t1 = simp (c.bits_of-then-bits_of-raised.ensures, c.bits_of.ensures, c.clamp.ensures, c.bits_of-raised.ensures, c.max.ensures) at c.if-raised-bits_of.true in
    simp (c.bits_of-then-bits_of-raised.ensures, c.bits_of.ensures, c.clamp.ensures, c.bits_of-raised.ensures, c.max.ensures, eq-eqb _ _ t0, eq-eqb _ _ t1)

pub returns-else-raised-bits_of : goal.returns-else-raised-bits_of
unfolding bound_of
returns-else-raised-bits_of c =
    let t0 = simp (c.bits_of.ensures, c.clamp.ensures, c.bits_of-raised.ensures, c.max.ensures) at c.if-bits_of-raised.true in
    let t1 = simp (c.bits_of-then-bits_of-raised.ensures, c.bits_of.ensures, c.clamp.ensures, c.bits_of-raised.ensures, c.max.ensures) at c.if-raised-bits_of.false in
    simp (c.bits_of-then-bits_of-raised.ensures, c.bits_of.ensures, c.clamp.ensures, c.bits_of-raised.ensures, c.max.ensures, eq-eqb _ _ t0, ne_eqb _ _ t1)

pub returns-else-bits_of-raised : goal.returns-else-bits_of-raised
unfolding bound_of
returns-else-bits_of-raised c =
    let t0 = simp (c.bits_of.ensures, c.clamp.ensures, c.bits_of-raised.ensures, c.max.ensures) at c.if-bits_of-raised.false in
    simp (c.bits_of.ensures, c.clamp.ensures, c.bits_of-raised.ensures, c.max.ensures, ne_eqb _ _ t0)
