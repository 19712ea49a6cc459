-- `solid::refused::refusal` meets its contract: the three tests in their order.
use mathlib.Core.Path.{sym, ◌∙◌}
use borrow.Author.Tests.{eq-eqb, ne_eqb}
use Rattle.numbers.proofs.Laws.{and_both}
use Rattle.record.specs.Layout.{record_finite}
use Rattle.solid.specs.OfRecord.{of_record}
use Rattle.solid.proofs.refused.refusal.Goals as goal

pub determinant_right-requires : goal.determinant_right-requires
determinant_right-requires c =
    let a = c.args in
    let t = simp c.all_finite.ensures at c.if-law_finite-all_finite.true in
    (c.if-r-eq-FLOATS.true, (and_both a.law_finite (record_finite a.r.now) t).1)

pub returns-then-determinant_right : goal.returns-then-determinant_right
unfolding of_record
returns-then-determinant_right c =
    let e = eq-eqb _ _ c.if-r-eq-FLOATS.true in
    let t = simp c.all_finite.ensures at c.if-law_finite-all_finite.true in
    let d = sym c.determinant_right.ensures ∙ c.if-determinant_right.true in
    simp (e, t, d)

pub returns-else-determinant_right : goal.returns-else-determinant_right
unfolding of_record
returns-else-determinant_right c =
    let e = eq-eqb _ _ c.if-r-eq-FLOATS.true in
    let t = simp c.all_finite.ensures at c.if-law_finite-all_finite.true in
    let d = sym c.determinant_right.ensures ∙ c.if-determinant_right.false in
    simp (e, t, d)

pub returns-else-law_finite-all_finite : goal.returns-else-law_finite-all_finite
unfolding of_record
returns-else-law_finite-all_finite c =
    let e = eq-eqb _ _ c.if-r-eq-FLOATS.true in
    let t = simp c.all_finite.ensures at c.if-law_finite-all_finite.false in
    simp (e, t)

pub returns-else-r-eq-FLOATS : goal.returns-else-r-eq-FLOATS
unfolding of_record
returns-else-r-eq-FLOATS c =
    let e = ne_eqb _ _ c.if-r-eq-FLOATS.false in
    simp e
