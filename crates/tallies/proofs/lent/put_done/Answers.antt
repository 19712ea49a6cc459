-- `tallies::lent::put_done` meets its contract: by the refusal.
use mathlib.Core.Path.{refl}
use borrow.Author.Tests.{eq-eqb, ne_eqb}
use Rattle.tallies.proofs.lent.put_done.Goals as goal

pub returns-then-code-eq0 : goal.returns-then-code-eq0
returns-then-code-eq0 c = let t = eq-eqb _ _ c.if-code-eq0.true in record { value = refl; tallies_after = simp (c.write_tallies.ensures, t) }

pub returns-else-code-eq0 : goal.returns-else-code-eq0
returns-else-code-eq0 c = let t = ne_eqb _ _ c.if-code-eq0.false in record { value = refl; tallies_after = simp t }
