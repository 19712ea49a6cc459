-- `host_passes::factored::pasoletu_factor_list` meets its contract: 8, or the pass.
use mathlib.Core.Path.{refl}
use mathlib.Core.Bool.{true}
use lib.Dec.{eqb}
use lib.ListN.{length}
use borrow.Author.Tests.{eqb-true}
use Rattle.numbers.proofs.Laws.{and_both}
use Rattle.record.specs.Layout.{floats}
use Rattle.factored_particles.specs.Factored.{factor_law}
use Rattle.host_lists.proofs.Called.{goes, not_fitting}
use Rattle.host_passes.proofs.Calls.{passed_all}
use Rattle.host_passes.specs.Passes.{factors_by}
use Rattle.host_passes.proofs.factored.pasoletu_factor_list.Goals as goal

pub put_counts-requires : goal.put_counts-requires
put_counts-requires c =
    let a = c.args in
    eqb-true _ _ (and_both c.well_sized.result (eqb (length a.counts.now) 3) c.if-well_sized-counts.true).1

pub returns-then-well_sized-counts : goal.returns-then-well_sized-counts
unfolding factors_by
returns-then-well_sized-counts c =
    let a = c.args in
    let t = rw c.well_sized.ensures at c.if-well_sized-counts.true in
    let e = c.factor_list-passed.ensures in
    let p = c.put_counts.ensures in
    goes _ true _ _ t refl
    (passed_all floats factor_law a.records.now a.answers.now a.counts.now (and_both _ _ t).0 _ e.value p.value e.xs_after e.out_after p.counts_after)

pub returns : goal.returns
unfolding factors_by
returns c = not_fitting _ _ _ (rw c.well_sized.ensures at c.if-well_sized-counts.false)
