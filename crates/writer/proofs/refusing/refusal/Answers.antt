-- `writer::refusing::refusal` meets its contract: the tests in their order.
use mathlib.Core.Path.{sym, ◌∙◌}
use Rattle.writer.proofs.Cases.{parameters_many, sheet_length, uneven, unfit, other_model, over, short_room, fine}
use Rattle.writer.proofs.refusing.refusal.Goals as goal

pub returns-then-records-ne0 : goal.returns-then-records-ne0
returns-then-records-ne0 c = let a = c.args in uneven a.model a.parameters.now a.records.now a.room c.if-records-ne0.true

pub returns-then-not-fit : goal.returns-then-not-fit
returns-then-not-fit c =
    let a = c.args in
    unfit a.model a.parameters.now a.records.now a.room c.if-records-ne0.false (sym c.fit.ensures ∙ c.if-not-fit.true)

pub returns-then-not-known : goal.returns-then-not-known
returns-then-not-known c =
    let a = c.args in
    let f = sym c.fit.ensures ∙ c.if-not-fit.false in
    other_model a.model a.parameters.now a.records.now a.room c.if-records-ne0.false f (sym c.known.ensures ∙ c.if-not-known.true)

pub returns-then-records-gt-MOST : goal.returns-then-records-gt-MOST
returns-then-records-gt-MOST c =
    let a = c.args in
    let f = sym c.fit.ensures ∙ c.if-not-fit.false in
    let k = sym c.known.ensures ∙ c.if-not-known.false in
    over a.model a.parameters.now a.records.now a.room c.if-records-ne0.false f k c.if-records-gt-MOST.true

pub returns-then-room-sheet_length : goal.returns-then-room-sheet_length
returns-then-room-sheet_length c =
    let a = c.args in
    let f = sym c.fit.ensures ∙ c.if-not-fit.false in
    let k = sym c.known.ensures ∙ c.if-not-known.false in
    let n = c.sheet_length.ensures ∙ sym (sheet_length a.model a.parameters.now a.records.now (parameters_many a.model a.parameters.now f k)) in
    short_room a.model a.parameters.now a.records.now a.room c.if-records-ne0.false f k c.if-records-gt-MOST.false (rw n at c.if-room-sheet_length.true)

pub returns : goal.returns
returns c =
    let a = c.args in
    let f = sym c.fit.ensures ∙ c.if-not-fit.false in
    let k = sym c.known.ensures ∙ c.if-not-known.false in
    let n = c.sheet_length.ensures ∙ sym (sheet_length a.model a.parameters.now a.records.now (parameters_many a.model a.parameters.now f k)) in
    fine a.model a.parameters.now a.records.now a.room c.if-records-ne0.false f k c.if-records-gt-MOST.false (rw n at c.if-room-sheet_length.false)
