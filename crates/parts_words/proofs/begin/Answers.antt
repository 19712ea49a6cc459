-- `parts_words::begin` meets its contract.
use borrow.Author.Tests.{eq-eqb, ne_eqb}
use Rattle.parts_words.proofs.begin.Goals as goal

pub returns-then-state-ne-STATE : goal.returns-then-state-ne-STATE
returns-then-state-ne-STATE c = let e = ne_eqb _ _ c.if-state-ne-STATE.true in record { value = simp e; state_after = simp e }

pub returns : goal.returns
returns c =
    let e = eq-eqb _ _ c.if-state-ne-STATE.false in
    record { value = simp e; state_after = simp (c.put_arrival.ensures, c.begin-a.ensures, e) }
