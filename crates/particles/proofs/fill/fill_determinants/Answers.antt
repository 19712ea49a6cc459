-- `particles::fill::fill_determinants` meets its contract: by the size.
use mathlib.Core.Path.{sym}
use borrow.Author.Tests.{eq-eqb, ne_eqb}
use Rattle.particles.proofs.fill.fill_determinants.Goals as goal

pub all-requires : goal.all-requires
all-requires c = sym c.if-n-xs.true

pub returns-then-n-xs : goal.returns-then-n-xs
returns-then-n-xs c =
    let t = eq-eqb _ _ c.if-n-xs.true in
    record { value = simp t; xs_after = simp (c.all.ensures, t) }

pub returns : goal.returns
returns c = let t = ne_eqb _ _ c.if-n-xs.false in record { value = simp t; xs_after = simp t }
