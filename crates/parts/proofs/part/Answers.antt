-- `parts::part` meets its contract: the lists first.
use mathlib.Core.Path.{sym, ◌∙◌}
use Rattle.parts.specs.Parts.{parted}
use Rattle.parts.proofs.Cases.{lent_lists}
use Rattle.parts.proofs.part.Goals as goal

pub take-q-requires : goal.take-q-requires
take-q-requires c =
    let a = c.args in
    lent_lists a.records.now a.answers.now (sym c.are_lent.ensures ∙ c.if-are_lent.true)

pub returns-then-are_lent : goal.returns-then-are_lent
unfolding parted
returns-then-are_lent c =
    let t = sym c.are_lent.ensures ∙ c.if-are_lent.true in
    let e = c.take-q.ensures in
    record { value = rw (t, ← e.value) c.tell.ensures; records_after = rw t e.records_after; answers_after = rw t e.answers_after }

pub returns : goal.returns
unfolding parted
returns c =
    let t = sym c.are_lent.ensures ∙ c.if-are_lent.false in
    record { value = rw t c.tell-2.ensures; records_after = rw t; answers_after = rw t }
