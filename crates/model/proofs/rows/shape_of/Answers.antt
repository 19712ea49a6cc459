-- `model::rows::shape_of` meets its contract: by the number. Made by tools/table from calls.toml: edit that, not this file.
use Rattle.model.specs.Kinds.{law_of, kinds_of}
use Rattle.model.proofs.rows.shape_of.Goals as goal

pub returns-then-number : goal.returns-then-number
unfolding law_of kinds_of
returns-then-number c = rw c.if-number.true

pub returns-then-number-2 : goal.returns-then-number-2
unfolding law_of kinds_of
returns-then-number-2 c = rw (c.if-number.false, c.if-number-2.true)

pub returns-then-number-3 : goal.returns-then-number-3
unfolding law_of kinds_of
returns-then-number-3 c = rw (c.if-number.false, c.if-number-2.false, c.if-number-3.true)

pub returns-then-number-4 : goal.returns-then-number-4
unfolding law_of kinds_of
returns-then-number-4 c = rw (c.if-number.false, c.if-number-2.false, c.if-number-3.false, c.if-number-4.true)

pub returns-else-number-4 : goal.returns-else-number-4
unfolding law_of kinds_of
returns-else-number-4 c = rw (c.if-number.false, c.if-number-2.false, c.if-number-3.false, c.if-number-4.false)
