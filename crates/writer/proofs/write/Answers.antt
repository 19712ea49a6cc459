-- `writer::write` meets its contract: a refusal writes nothing, else the room is filled.
use mathlib.Core.Path.{refl, sym, ◌∙◌}
use borrow.Author.Tests.{ne_eqb}
use Rattle.writer.specs.Writer.{written_of, room_of}
use Rattle.writer.proofs.write.Goals as goal

pub returns-then-refusal-ne0 : goal.returns-then-refusal-ne0
unfolding written_of room_of
returns-then-refusal-ne0 c = let t = rw c.refusal-refusal.ensures at c.if-refusal-ne0.true in rw (c.refusal-refusal.ensures, ne_eqb _ 0 t) (record { value = refl; room_after = refl })

pub returns : goal.returns
unfolding written_of room_of
returns c =
    let z = sym c.refusal-refusal.ensures ∙ c.if-refusal-ne0.false in
    let f = c.filled.ensures in
    rw (z, f.value) (record { value = refl; room_after = f.room_after })
