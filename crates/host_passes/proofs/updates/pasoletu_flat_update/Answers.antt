-- `host_passes::updates::pasoletu_flat_update` meets its contract: 8, then 6, then the law.
use mathlib.Core.Path.{sym, ◌∙◌}
use mathlib.Core.Bool.{◌&&◌}
use lib.Dec.{eqb}
use lib.ListN.{length}
use borrow.Author.Tests.{eqb-true}
use Rattle.numbers.proofs.Laws.{and_both}
use Rattle.host_lists.proofs.Called.{goes, not_known, not_fitting, both}
use Rattle.host_passes.specs.Update.{update_by}
use Rattle.host_passes.proofs.updates.pasoletu_flat_update.Goals as goal

pub model_of-requires : goal.model_of-requires
model_of-requires c = sym c.known.ensures ∙ c.if-known.true

pub put_outcome-requires : goal.put_outcome-requires
put_outcome-requires c =
    let a = c.args in
    eqb-true _ _ (and_both (c.fit.result && eqb (length a.r.now) 20) (eqb (length a.answer.now) 2) c.if-fit-r.true).1

pub returns-then-known : goal.returns-then-known
unfolding update_by
returns-then-known c =
    let a = c.args in
    let t = rw c.fit.ensures at c.if-fit-r.true in
    let n = and_both (c.fit.result && eqb (length a.r.now) 20) (eqb (length a.answer.now) 2) c.if-fit-r.true in
    let s = (and_both c.fit.result (eqb (length a.r.now) 20) n.0).1 in
    let k = sym c.known.ensures ∙ c.if-known.true in
    let m = c.model_of.ensures in
    let e = c.update_record-o.ensures in
    let p = c.put_outcome.ensures in
    goes _ _ _ _ t k (both (simp (p.value, e.value, m, s)) (simp (e.r_after, m, s)) (simp (p.answer_after, e.value, m, s)))

pub returns-then-fit-r : goal.returns-then-fit-r
unfolding update_by
returns-then-fit-r c =
    not_known _ _ _ _ (rw c.fit.ensures at c.if-fit-r.true) (sym c.known.ensures ∙ c.if-known.false)

pub returns : goal.returns
unfolding update_by
returns c = not_fitting _ _ _ (rw c.fit.ensures at c.if-fit-r.false)
