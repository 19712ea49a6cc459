-- 8, then 6.
use mathlib.Core.Path.{sym, ◌∙◌}
use lib.Dec.{eqb}
use lib.ListN.{length}
use borrow.Author.Tests.{eqb-true}
use Rattle.numbers.proofs.Laws.{and_both}
use Rattle.model.specs.Kinds.{parameters_fit}
use Rattle.record.specs.Layout.{floats}
use Rattle.record_why.specs.Why.{why_of}
use Rattle.record_why.proofs.why.Goals as goal

pub model_of-requires : goal.model_of-requires
model_of-requires c = sym c.known.ensures ∙ c.if-known.true

pub told-requires : goal.told-requires
told-requires c =
    let a = c.args in
    let t = simp c.fit.ensures at c.if-fit-r.true in
    eqb-true (length a.r.now) floats (and_both (parameters_fit a.number a.p.now) (eqb (length a.r.now) floats) t).1

pub returns-then-known : goal.returns-then-known
unfolding why_of
returns-then-known c =
    let t0 = simp c.fit.ensures at c.if-fit-r.true in
    let t1 = simp c.known.ensures at c.if-known.true in
    simp (c.told.ensures, c.model_of.ensures, t0, t1)

pub returns-else-known : goal.returns-else-known
unfolding why_of
returns-else-known c =
    let t0 = simp c.fit.ensures at c.if-fit-r.true in
    let t1 = simp c.known.ensures at c.if-known.false in
    simp (t0, t1)

pub returns-else-fit-r : goal.returns-else-fit-r
unfolding why_of
returns-else-fit-r c =
    let t0 = simp c.fit.ensures at c.if-fit-r.false in
    simp t0
