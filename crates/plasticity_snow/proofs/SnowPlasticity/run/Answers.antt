-- `plasticity_snow::SnowPlasticity::run` answers `updated_of s (result (run_walk self u vt s))`.
use Rattle.walk.proofs.Body.{store_law}
use Rattle.walk.specs.Update.{in_three}
use Rattle.walk.proofs.Matrix.{value_product}
use Rattle.plasticity_snow.specs.Over.{harden_walk}
use Rattle.plasticity_snow.proofs.Laws.{bounds_numbers, run_law}
use Rattle.plasticity_snow.proofs.SnowPlasticity.run.Goals as goal

pub clamped-new-requires : goal.clamped-new-requires
clamped-new-requires c =
    let a = c.args in
    bounds_numbers in_three a.self a.u a.vt a.s c.requires

pub returns-in-Value : goal.returns-in-Value
unfolding harden_walk
returns-in-Value c =
    let t0 = simp (c.exp_on_path.ensures, c.exponent.ensures, c.determinant-d.ensures, c.clamped-new.ensures) at c.in-Value.is in
    let a = c.args in
    simp (c.store.ensures, c.exp_on_path.ensures, c.exponent.ensures, c.determinant-d.ensures, c.clamped-new.ensures, t0, run_law in_three a.self a.u a.vt a.s c.requires, value_product, store_law in_three)

pub returns-in-Refused : goal.returns-in-Refused
unfolding harden_walk
returns-in-Refused c =
    let t0 = simp (c.exp_on_path.ensures, c.exponent.ensures, c.determinant-d.ensures, c.clamped-new.ensures) at c.in-Refused.is in
    let a = c.args in
    simp (c.refuse.ensures, c.exp_on_path.ensures, c.exponent.ensures, c.determinant-d.ensures, c.clamped-new.ensures, t0, run_law in_three a.self a.u a.vt a.s c.requires, value_product, store_law in_three)
