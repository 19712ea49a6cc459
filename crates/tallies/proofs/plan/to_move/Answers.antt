-- `tallies::plan::to_move` meets its contract: by what is in range.
use mathlib.Core.Path.{refl, sym, ◌∙◌}
use mathlib.Core.Bool.{false≢true}
use native.Mathlib.Omega.{arith}
use Rattle.tallies.proofs.ZoneLaws.{listed_there, below_after}
use Rattle.tallies.proofs.plan.to_move.Goals as goal

pub offset_bounds-zones-p : goal.offset_bounds-zones-p
offset_bounds-zones-p c =
    let a = c.args in
    let h = listed_there a.particles a.p a.z a.zones.now a.n (sym c.move_fits.ensures ∙ c.if-move_fits.true) in
    record { fits = omega (arith, h, c.well_formed.1.1.1.0.1) }

pub bounds-zones-p : goal.bounds-zones-p
bounds-zones-p c =
    let a = c.args in
    listed_there a.particles a.p a.z a.zones.now a.n (sym c.move_fits.ensures ∙ c.if-move_fits.true)

pub decided-requires : goal.decided-requires
decided-requires c =
    let a = c.args in
    λ e. below_after a.particles a.p a.z a.zones.now a.n (sym c.move_fits.ensures ∙ c.if-move_fits.true)

pub returns-then-move_fits : goal.returns-then-move_fits
returns-then-move_fits c =
    let t = sym c.move_fits.ensures ∙ c.if-move_fits.true in
    let e = c.decided.ensures in
    rw t (e.0, refl, e.1)

pub decided-requires-2 : goal.decided-requires-2
decided-requires-2 c = λ e. absurd (false≢true e)

pub returns : goal.returns
returns c =
    let f = sym c.move_fits.ensures ∙ c.if-move_fits.false in
    let e = c.decided-2.ensures in
    rw f (e.0, refl, e.1)
