-- `tallies::plan::to_pass` meets its contract: 8, then what fits.
use mathlib.Core.Path.{sym, ◌∙◌}
use mathlib.Core.Bool.{false≢true}
use Prim.Native.Nat.{◌/◌}
use Rattle.record.specs.Layout.{floats}
use Rattle.tallies.proofs.ZoneLaws.{fits_all}
use Rattle.tallies.proofs.plan.to_pass.Goals as goal

pub decided-requires : goal.decided-requires
decided-requires c = let a = c.args in λ e. fits_all (a.words / floats) a.zones.now a.n (sym c.zones_fit-goes.ensures ∙ e)

pub returns-then-well_sized : goal.returns-then-well_sized
returns-then-well_sized c =
    let w = sym c.well_sized.ensures ∙ c.if-well_sized.true in
    rw w (rw c.zones_fit-goes.ensures at c.decided.ensures)

pub decided-requires-2 : goal.decided-requires-2
decided-requires-2 c = λ e. absurd (false≢true e)

pub returns : goal.returns
returns c =
    let f = sym c.well_sized.ensures ∙ c.if-well_sized.false in
    rw f c.decided-2.ensures
