-- `parts::byte` meets its contract: each return is a case of `next`.
use mathlib.Core.Path.{◌∙◌}
use Rattle.parts.proofs.Cases.{next_none, next_full, next_record, next_preamble}
use Rattle.parts.proofs.byte.Goals as goal

pub returns-then-a-ne0 : goal.returns-then-a-ne0
returns-then-a-ne0 c =
    let a = c.args in
    let n = next_none a.a a.b a.records.now a.answers.now c.if-a-ne0.true in
    record { value = n.0; records_after = n.1.0; answers_after = n.1.1 }

pub returns-then-a-ge-ROOM : goal.returns-then-a-ge-ROOM
returns-then-a-ge-ROOM c =
    let a = c.args in
    let n = next_full a.a a.b a.records.now a.answers.now c.if-a-ne0.false c.if-a-ge-ROOM.true in
    record { value = c.stop.ensures ∙ n.0; records_after = n.1.0; answers_after = n.1.1 }

pub returns-then-a-eq0 : goal.returns-then-a-eq0
returns-then-a-eq0 c =
    let a = c.args in
    let n = next_record a.a a.b a.records.now a.answers.now c.if-a-ne0.false c.if-a-ge-ROOM.false c.if-a-eq0.true in
    let e = c.record_byte.ensures in
    record { value = e.value ∙ n.0; records_after = e.records_after ∙ n.1.0; answers_after = e.answers_after ∙ n.1.1 }

pub returns : goal.returns
returns c =
    let a = c.args in
    let n = next_preamble a.a a.b a.records.now a.answers.now c.if-a-ne0.false c.if-a-ge-ROOM.false c.if-a-eq0.false in
    record { value = c.preamble_byte.ensures ∙ n.0; records_after = n.1.0; answers_after = n.1.1 }
