-- `host_passes::plain::pasoletu_flat_pass` meets its contract: 8, then 6, then the pass.
use mathlib.Core.Path.{sym, ◌∙◌}
use mathlib.Core.Bool.{◌&&◌}
use lib.Dec.{eqb}
use lib.ListN.{length}
use borrow.Author.Tests.{eqb-true}
use Rattle.numbers.proofs.Laws.{and_both}
use Rattle.flat_particles.specs.Layout.{floats}
use Rattle.flat_particles.specs.Law.{flat_law}
use Rattle.host_passes.proofs.Calls.{pass_goes, pass_unknown, pass_unfit}
use Rattle.host_passes.proofs.plain.pasoletu_flat_pass.Goals as goal

pub model_of-requires : goal.model_of-requires
model_of-requires c = sym c.known.ensures ∙ c.if-known.true

pub put_counts-requires : goal.put_counts-requires
put_counts-requires c =
    let a = c.args in
    eqb-true _ _ (and_both (c.fit.result && c.well_sized.result) (eqb (length a.counts.now) 3) c.if-fit-well_sized.true).1

pub returns-then-known : goal.returns-then-known
returns-then-known c =
    let a = c.args in
    let t = rw (c.well_sized.ensures, c.fit.ensures) at c.if-fit-well_sized.true in
    let k = sym c.known.ensures ∙ c.if-known.true in
    let m = c.model_of in
    let e = c.pass-passed in
    let p = c.put_counts.ensures in
    pass_goes floats flat_law a.model a.parameters.now a.records.now a.answers.now a.counts.now t k
    m.result e.result m.ensures e.ensures.value p.value e.ensures.xs_after e.ensures.out_after p.counts_after

pub returns-then-fit-well_sized : goal.returns-then-fit-well_sized
returns-then-fit-well_sized c =
    let a = c.args in
    let t = rw (c.well_sized.ensures, c.fit.ensures) at c.if-fit-well_sized.true in
    pass_unknown floats flat_law a.model a.parameters.now a.records.now a.answers.now a.counts.now t (sym c.known.ensures ∙ c.if-known.false)

pub returns : goal.returns
returns c =
    let a = c.args in
    pass_unfit floats flat_law a.model a.parameters.now a.records.now a.answers.now a.counts.now
    (rw (c.well_sized.ensures, c.fit.ensures) at c.if-fit-well_sized.false)
