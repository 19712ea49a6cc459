-- `parts::record_byte` meets its contract: each return is a case of `recorded`, `records_by` and `answers_by`.
use mathlib.Core.Path.{sym, ◌∙◌}
use native.Mathlib.Omega.{arith}
use Rattle.sheet.proofs.RecordLaws.{floats_most, floats_least}
use Rattle.parts.proofs.Cases.{few, held_more, whole, nameless, over}
use Rattle.parts.proofs.record_byte.Goals as goal

pub overflow_mul-last : goal.overflow_mul-last
overflow_mul-last c =
    let m = floats_most c.args.a.header.model in
    rw c.floats_of.ensures (omega arith)

pub overflow_sub-last : goal.overflow_sub-last
overflow_sub-last c =
    let m = floats_least c.args.a.header.model in
    rw c.floats_of.ensures (omega arith)

pub returns-then-at-last : goal.returns-then-at-last
returns-then-at-last c =
    let h = rw c.floats_of.ensures at c.if-at-last.true in
    let a = c.args in
    let o = held_more a.a a.b a.records.now a.answers.now c.if-k-header.true (omega arith) in
    record { value = o.0; records_after = o.1.0; answers_after = o.1.1 }

pub work-requires : goal.work-requires
work-requires c =
    (few c.args.a 0 c.if-k-header.true, c.requires.1, sym c.names_model.ensures ∙ c.if-names_model.true)

pub overflow_add-result-then-names_model : goal.overflow_add-result-then-names_model
overflow_add-result-then-names_model c =
    let t = few c.args.a 0 c.if-k-header.true in
    omega arith

pub returns-then-names_model : goal.returns-then-names_model
returns-then-names_model c =
    let a = c.args in
    let f = c.floats_of.ensures in
    let h = rw f at c.if-at-last.false in
    let m = floats_least a.a.header.model in
    let k = sym c.names_model.ensures ∙ c.if-names_model.true in
    let w = whole a.a a.b a.records.now a.answers.now c.if-k-header.true (omega arith) k in
    let e = c.work.ensures in
    record { value = w.0; records_after = e.records_after ∙ w.1.0; answers_after = e.answers_after ∙ w.1.1 }

-- no model has the name
pub returns-then-k-header : goal.returns-then-k-header
returns-then-k-header c =
    let a = c.args in
    let f = c.floats_of.ensures in
    let h = rw f at c.if-at-last.false in
    let m = floats_least a.a.header.model in
    let k = sym c.names_model.ensures ∙ c.if-names_model.false in
    let o = nameless a.a a.b a.records.now a.answers.now c.if-k-header.true (omega arith) k in
    record { value = c.stop.ensures ∙ o.0; records_after = o.1.0; answers_after = o.1.1 }

pub returns : goal.returns
returns c =
    let a = c.args in
    let o = over a.a a.b a.records.now a.answers.now c.if-k-header.false in
    record { value = c.stop-2.ensures ∙ o.0; records_after = o.1.0; answers_after = o.1.1 }
