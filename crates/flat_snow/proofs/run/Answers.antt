-- `flat_snow::run` answers `updated_of s (result (run_walk law u vt s))`.
use Rattle.walk.proofs.Matrix.{value_product}
use Rattle.walk.proofs.Body.{store_law}
use Rattle.plasticity_snow.specs.Over.{harden_walk}
use Rattle.plasticity_snow.proofs.Laws.{run_law}
use Rattle.flat.specs.Update.{in_two}
use Rattle.flat_snow.proofs.run.Goals as goal

pub returns-in-Value : goal.returns-in-Value
unfolding harden_walk
returns-in-Value c =
    let a = c.args in
    let law = run_law in_two a.law a.u a.vt a.s c.requires in
    let t0 = simp (c.exp_on_path.ensures, c.product-2.ensures, c.product.ensures, c.clamped-new.ensures) at c.in-Value.is in
    simp (c.store.ensures, c.exp_on_path.ensures, c.product-2.ensures, c.product.ensures, c.clamped-new.ensures, t0, law, value_product, store_law in_two)

pub returns-in-Refused : goal.returns-in-Refused
unfolding harden_walk
returns-in-Refused c =
    let a = c.args in
    let law = run_law in_two a.law a.u a.vt a.s c.requires in
    let t0 = simp (c.exp_on_path.ensures, c.product-2.ensures, c.product.ensures, c.clamped-new.ensures) at c.in-Refused.is in
    simp (c.refuse.ensures, c.exp_on_path.ensures, c.product-2.ensures, c.product.ensures, c.clamped-new.ensures, t0, law, value_product, store_law in_two)
