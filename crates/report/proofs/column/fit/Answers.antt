-- `report::column::fit` meets its contract: where no number is above 4,096 all can be added, and elsewhere the sum is above it.
use Rattle.std.proofs.Common.{true, ◌&&◌, sym, ◌∙◌, ap₂, arith}
use Rattle.numbers.proofs.Laws.{and_both}
use Rattle.report.specs.Joined.{together}
use Rattle.report.proofs.Fits.{is_small, under, not_together}
use Rattle.report.proofs.column.fit.Goals as goal

pub records-requires : goal.records-requires
records-requires c =
    let s = c.args in
    let t = and_both (is_small s.a) (is_small s.b) (sym (ap₂ ◌&&◌ c.small.ensures c.small-2.ensures) ∙ c.if-small.true) in
    under s.a t.0

pub records-requires-then-small : goal.records-requires-then-small
records-requires-then-small c =
    let s = c.args in
    let t = and_both (is_small s.a) (is_small s.b) (sym (ap₂ ◌&&◌ c.small.ensures c.small-2.ensures) ∙ c.if-small.true) in
    under s.b t.1

pub overflow_add-result : goal.overflow_add-result
overflow_add-result c =
    let s = c.args in
    let t = and_both (is_small s.a) (is_small s.b) (sym (ap₂ ◌&&◌ c.small.ensures c.small-2.ensures) ∙ c.if-small.true) in
    let u = under s.a t.0 in
    let v = under s.b t.1 in
    let e = c.records.ensures in
    let f = c.records-then-small.ensures in
    record { fits = omega arith }

pub returns-then-small : goal.returns-then-small
unfolding together
returns-then-small c = simp (c.records-then-small.ensures, c.records.ensures)

pub returns-else-small : goal.returns-else-small
returns-else-small c =
    let s = c.args in
    not_together s.a s.b (sym (ap₂ ◌&&◌ c.small.ensures c.small-2.ensures) ∙ c.if-small.false)
