-- `host_passes::zones::pasoletu_pass_with_failure_by_zone` meets its contract: 8, then 6, then the pass.
use mathlib.Core.Path.{sym, ◌∙◌}
use Rattle.numbers.proofs.Laws.{and_both}
use Rattle.host_lists.proofs.Called.{goes, not_known, not_fitting, all_three}
use Rattle.host_passes.specs.Zones.{failure_zones_pass}
use Rattle.host_passes.proofs.zones.pasoletu_pass_with_failure_by_zone.Goals as goal

pub model_of-requires : goal.model_of-requires
model_of-requires c =
    sym c.known.ensures ∙ (and_both c.known.result c.is_flag.result c.if-known-is_flag.true).0

pub returns-then-known-is_flag : goal.returns-then-known-is_flag
unfolding failure_zones_pass
returns-then-known-is_flag c =
    let t = rw (c.whole_words.ensures, c.well_sized.ensures, c.fit.ensures) at c.if-fit-limits.true in
    let k = rw (c.is_flag.ensures, c.word.ensures, c.known.ensures) at c.if-known-is_flag.true in
    let m = c.model_of.ensures in
    let l = c.limits.ensures in
    let g = c.corotated.ensures in
    let e = c.pass_with_failure_words.ensures in
    goes _ _ _ _ t k (all_three e.value (rw (m, l, g) at e.xs_after) (rw (m, l, g) at e.out_after) (rw (m, l, g) at e.tallies_after))

pub returns-then-fit-limits : goal.returns-then-fit-limits
unfolding failure_zones_pass
returns-then-fit-limits c =
    not_known _ _ _ _ (rw (c.whole_words.ensures, c.well_sized.ensures, c.fit.ensures) at c.if-fit-limits.true)
    (rw (c.is_flag.ensures, c.word.ensures, c.known.ensures) at c.if-known-is_flag.false)

pub returns : goal.returns
unfolding failure_zones_pass
returns c = not_fitting _ _ _ (rw (c.whole_words.ensures, c.well_sized.ensures, c.fit.ensures) at c.if-fit-limits.false)
