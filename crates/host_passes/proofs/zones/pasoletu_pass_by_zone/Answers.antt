-- `host_passes::zones::pasoletu_pass_by_zone` meets its contract: 8, then 6, then the pass.
use mathlib.Core.Path.{sym, ◌∙◌}
use Rattle.host_lists.proofs.Called.{goes, not_known, not_fitting, all_three}
use Rattle.host_passes.specs.Zones.{zones_pass}
use Rattle.host_passes.proofs.zones.pasoletu_pass_by_zone.Goals as goal

pub model_of-requires : goal.model_of-requires
model_of-requires c = sym c.known.ensures ∙ c.if-known.true

pub returns-then-known : goal.returns-then-known
unfolding zones_pass
returns-then-known c =
    let t = rw (c.whole_words.ensures, c.well_sized.ensures, c.fit.ensures) at c.if-fit-well_sized.true in
    let k = sym c.known.ensures ∙ c.if-known.true in
    let m = c.model_of.ensures in
    let e = c.pass_words.ensures in
    goes _ _ _ _ t k (all_three e.value (rw m at e.xs_after) (rw m at e.out_after) (rw m at e.tallies_after))

pub returns-then-fit-well_sized : goal.returns-then-fit-well_sized
unfolding zones_pass
returns-then-fit-well_sized c =
    not_known _ _ _ _ (rw (c.whole_words.ensures, c.well_sized.ensures, c.fit.ensures) at c.if-fit-well_sized.true) (sym c.known.ensures ∙ c.if-known.false)

pub returns : goal.returns
unfolding zones_pass
returns c = not_fitting _ _ _ (rw (c.whole_words.ensures, c.well_sized.ensures, c.fit.ensures) at c.if-fit-well_sized.false)
