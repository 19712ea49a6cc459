-- `host_passes::failure::pasoletu_pass_factored_with_failure` meets its contract: 8, then 6, then the pass.
use mathlib.Core.Path.{sym, ◌∙◌}
use mathlib.Core.Bool.{◌&&◌}
use lib.Dec.{eqb}
use lib.ListN.{length}
use borrow.Author.Tests.{eqb-true}
use Rattle.numbers.proofs.Laws.{and_both}
use Rattle.host_passes.specs.Passes.{factored_failure}
use Rattle.host_passes.proofs.Calls.{failure_goes, failure_unknown, failure_unfit}
use Rattle.host_passes.proofs.failure.pasoletu_pass_factored_with_failure.Goals as goal

pub model_of-requires : goal.model_of-requires
model_of-requires c =
    sym c.known.ensures ∙ (and_both c.known.result c.is_flag.result c.if-known-is_flag.true).0

pub put_failure_counts-requires : goal.put_failure_counts-requires
put_failure_counts-requires c =
    let a = c.args in
    eqb-true _ _ (and_both (c.fit.result && eqb (length a.limits.now) 2 && eqb (length a.corotated.now) 4 && c.well_sized.result) (eqb (length a.counts.now) 4) c.if-fit-limits.true).1

pub returns-then-known-is_flag : goal.returns-then-known-is_flag
returns-then-known-is_flag c =
    let a = c.args in
    let t = rw (c.well_sized.ensures, c.fit.ensures) at c.if-fit-limits.true in
    let k = rw (c.is_flag.ensures, c.word.ensures, c.known.ensures) at c.if-known-is_flag.true in
    let m = c.model_of in
    let l = c.limits in
    let g = c.corotated in
    let e = c.pass_factored_with_failure-passed in
    let p = c.put_failure_counts.ensures in
    failure_goes factored_failure a.model a.parameters.now a.limits.now a.corotated.now a.records.now a.answers.now a.counts.now t k
    m.result l.result g.result e.result m.ensures l.ensures g.ensures e.ensures.value p.value e.ensures.xs_after e.ensures.out_after p.counts_after

pub returns-then-fit-limits : goal.returns-then-fit-limits
returns-then-fit-limits c =
    let a = c.args in
    let t = rw (c.well_sized.ensures, c.fit.ensures) at c.if-fit-limits.true in
    failure_unknown factored_failure a.model a.parameters.now a.limits.now a.corotated.now a.records.now a.answers.now a.counts.now t
    (rw (c.is_flag.ensures, c.word.ensures, c.known.ensures) at c.if-known-is_flag.false)

pub returns : goal.returns
returns c =
    let a = c.args in
    failure_unfit factored_failure a.model a.parameters.now a.limits.now a.corotated.now a.records.now a.answers.now a.counts.now
    (rw (c.well_sized.ensures, c.fit.ensures) at c.if-fit-limits.false)
