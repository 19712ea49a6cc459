-- `writer::fill` meets its contract: the four pieces stand one after the other, and all of them have place.
use mathlib.Core.Path.{◌≡◌}
use mathlib.Core.List.{List}
use Prim.Native.Nat.{ℕ, ◌+◌, ◌*◌, ◌≤◌}
use native.Mathlib.Omega.{arith}
use lib.ListN.{length}
use Rattle.std.proofs.Common.{rules}
use Rattle.sheet.specs.Records.{sheet_floats}
use Rattle.sheet.specs.Spelling.{spell_number}
use Rattle.writer.specs.Writer.{count_of, refusal_of}
use Rattle.writer.proofs.Reasons.{fine}
use Rattle.writer.proofs.Stages.{sheet_length, first_length, second_length, third_length, whole}
use Rattle.writer.proofs.fill.Goals as goal

fitting : (model : ℕ) (p words room : List ℕ) → refusal_of model p words (length room) ≡ 0
    → length (spell_number model) + length p * 8 + length (spell_number (count_of words)) + count_of words * sheet_floats model * 8 ≤ length room
fitting model p words room e = rw (sheet_length model p words) at (fine model p words (length room) e).place

pub write_number-a-requires : goal.write_number-a-requires
write_number-a-requires c =
    let a = c.args in
    let h = fitting a.model a.parameters.now a.records.now a.room.now c.requires in
    let g = fine a.model a.parameters.now a.records.now (length a.room.now) c.requires in
    let k = g.named.listed.known in
    (omega arith, omega arith)

pub write_words-requires : goal.write_words-requires
write_words-requires c =
    let a = c.args in
    let h = fitting a.model a.parameters.now a.records.now a.room.now c.requires in
    let e = c.write_number-a.ensures in
    rw (first_length a.model a.parameters.now a.records.now a.room.now h _ e.0 _ e.1) (omega (arith, h, e.0))

pub overflow_add-b : goal.overflow_add-b
overflow_add-b c =
    let a = c.args in
    let h = fitting a.model a.parameters.now a.records.now a.room.now c.requires in
    let e = c.write_number-a.ensures.0 in
    search rules

pub write_number-c-requires : goal.write_number-c-requires
write_number-c-requires c =
    let a = c.args in
    let h = fitting a.model a.parameters.now a.records.now a.room.now c.requires in
    let g = fine a.model a.parameters.now a.records.now (length a.room.now) c.requires in
    let f = g.few in
    let e = c.write_number-a.ensures in
    let s = c.write_words.ensures in
    (rw (second_length a.model a.parameters.now a.records.now a.room.now h _ e.0 _ _ e.1 s) (omega (arith, h, e.0)), omega (arith, f))

pub write_records-requires : goal.write_records-requires
write_records-requires c =
    let a = c.args in
    let h = fitting a.model a.parameters.now a.records.now a.room.now c.requires in
    let e = c.write_number-a.ensures in
    let s = c.write_words.ensures in
    let f = c.write_number-c.ensures in
    rw (third_length a.model a.parameters.now a.records.now a.room.now h _ e.0 _ _ e.1 s _ f.1) (omega (arith, h, e.0, f.0))

pub overflow_mul-result : goal.overflow_mul-result
overflow_mul-result c =
    let a = c.args in
    let h = fitting a.model a.parameters.now a.records.now a.room.now c.requires in
    rw c.floats_of.ensures (search rules)

pub overflow_mul-result-2 : goal.overflow_mul-result-2
overflow_mul-result-2 c =
    let a = c.args in
    let h = fitting a.model a.parameters.now a.records.now a.room.now c.requires in
    rw c.floats_of.ensures (search rules)

pub overflow_add-result : goal.overflow_add-result
overflow_add-result c =
    let a = c.args in
    let h = fitting a.model a.parameters.now a.records.now a.room.now c.requires in
    let e = c.write_number-a.ensures.0 in
    let f = c.write_number-c.ensures.0 in
    rw c.floats_of.ensures (search rules)

pub returns : goal.returns
returns c =
    let a = c.args in
    let h = fitting a.model a.parameters.now a.records.now a.room.now c.requires in
    let e = c.write_number-a.ensures in
    let s = c.write_words.ensures in
    let f = c.write_number-c.ensures in
    let t = c.write_records.ensures in record { value = rw (c.floats_of.ensures, sheet_length a.model a.parameters.now a.records.now) (omega (arith, e.0, f.0)); room_after = whole a.model a.parameters.now a.records.now a.room.now h _ e.0 _ _ e.1 s _ f.1 _ (rw f.0 at t) }
