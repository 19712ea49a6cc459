-- `tallies::plan::to_count` meets its contract: by the refusal and the room.
use mathlib.Core.Path.{refl}
use borrow.Author.Tests.{eq-eqb, ne_eqb}
use Rattle.tallies.proofs.plan.to_count.Goals as goal

pub returns-then-room : goal.returns-then-room
returns-then-room c =
    let t = eq-eqb _ _ c.if-code-eq0.true in
    let u = c.if-room.true in
    (simp (t, u), simp (t, u), refl)

pub returns-then-code-eq0 : goal.returns-then-code-eq0
returns-then-code-eq0 c =
    let t = eq-eqb _ _ c.if-code-eq0.true in
    let u = c.if-room.false in
    (simp (t, u), simp (t, u), refl)

pub returns : goal.returns
returns c = let f = ne_eqb _ _ c.if-code-eq0.false in (simp f, simp f, refl)
