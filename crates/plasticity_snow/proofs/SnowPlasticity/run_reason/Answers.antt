-- The clamp's steps meet no NaN.
use Rattle.walk.specs.Update.{in_three}
use Rattle.reason.specs.declared.Reason.TheVariants.{Refused}
use Rattle.reason.specs.Why.{tells_test}
use Rattle.reason.proofs.Why.{store_why}
use Rattle.walk.proofs.Matrix.{value_product}
use Rattle.plasticity_snow.specs.Over.{harden_walk}
use Rattle.plasticity_snow.proofs.Laws.{run_read}
use Rattle.plasticity_snow.proofs.SnowPlasticity.run_reason.Goals as goal

pub returns-then-results_finite : goal.returns-then-results_finite
unfolding harden_walk
returns-then-results_finite c =
    let t0 = simp (c.exp_on_path.ensures, c.exponent.ensures, c.determinant-d.ensures, c.project_deformation_gradient-new.ensures) at c.in-Value.is in
    let t1 = simp (c.results_finite.ensures, c.recompose.ensures, c.exp_on_path.ensures, c.exponent.ensures, c.determinant-d.ensures, c.project_deformation_gradient-new.ensures) at c.if-results_finite.true in
    let a = c.args in
    simp (c.results_finite.ensures, c.recompose.ensures, c.exp_on_path.ensures, c.exponent.ensures, c.determinant-d.ensures, c.project_deformation_gradient-new.ensures, t0, t1, run_read in_three a.self a.u a.vt a.s Refused tells_test (λ q x. q) a.told c.requires, value_product, store_why in_three)

pub returns-else-results_finite : goal.returns-else-results_finite
unfolding harden_walk
returns-else-results_finite c =
    let t0 = simp (c.exp_on_path.ensures, c.exponent.ensures, c.determinant-d.ensures, c.project_deformation_gradient-new.ensures) at c.in-Value.is in
    let t1 = simp (c.results_finite.ensures, c.recompose.ensures, c.exp_on_path.ensures, c.exponent.ensures, c.determinant-d.ensures, c.project_deformation_gradient-new.ensures) at c.if-results_finite.false in
    let a = c.args in
    simp (c.results_finite.ensures, c.recompose.ensures, c.exp_on_path.ensures, c.exponent.ensures, c.determinant-d.ensures, c.project_deformation_gradient-new.ensures, t0, t1, run_read in_three a.self a.u a.vt a.s Refused tells_test (λ q x. q) a.told c.requires, value_product, store_why in_three)

pub returns-in-Refused : goal.returns-in-Refused
unfolding harden_walk
returns-in-Refused c =
    let t0 = simp (c.exp_on_path.ensures, c.exponent.ensures, c.determinant-d.ensures, c.project_deformation_gradient-new.ensures) at c.in-Refused.is in
    let a = c.args in
    simp (c.exp_on_path.ensures, c.exponent.ensures, c.determinant-d.ensures, c.project_deformation_gradient-new.ensures, t0, run_read in_three a.self a.u a.vt a.s Refused tells_test (λ q x. q) a.told c.requires, value_product, store_why in_three)
