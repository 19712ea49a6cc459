-- The exponentials are asked in index order.
use Rattle.std.proofs.Common.{rules}
use Rattle.walk.specs.Update.{in_three}
use Rattle.reason.proofs.Why.{store_why}
use mathlib.Core.Path.{◌≡◌, sym, ◌∙◌}
use lib.ListN.{length}
use Rattle.walk.specs.Expr.{num}
use Rattle.walk.specs.Walk.{exp}
use Rattle.walk.proofs.Three.{asks_read}
use Rattle.reason.specs.declared.Reason.TheVariants.{Refused}
use Rattle.reason.specs.Why.{tells_test}
use Rattle.plasticity_rankine.specs.Over as over
use Rattle.plasticity_rankine.specs.Rankine.{store_walk}
use Rattle.plasticity_rankine.proofs.reasons.exps_reason.Goals as goal

pub returns-then-results_finite : goal.returns-then-results_finite
unfolding over.exps_walk
returns-then-results_finite c =
    let axes : length c.args.e ≡ 3 = search rules in
    let a = c.args in
    let t = simp (c.results_finite.ensures, c.recompose.ensures) at c.if-results_finite.true in
    (simp (store_why in_three, t)) ∙ asks_read Refused tells_test (λ q x. q) a.told 9 exp a.e (λ sigma. store_walk a.u sigma a.vt (num a.h) a.s) _ axes (sym c.exps_on_path.ensures ∙ c.in-Values.is)

pub returns-else-results_finite : goal.returns-else-results_finite
unfolding over.exps_walk
returns-else-results_finite c =
    let axes : length c.args.e ≡ 3 = search rules in
    let a = c.args in
    let t = simp (c.results_finite.ensures, c.recompose.ensures) at c.if-results_finite.false in
    (simp (store_why in_three, t)) ∙ asks_read Refused tells_test (λ q x. q) a.told 9 exp a.e (λ sigma. store_walk a.u sigma a.vt (num a.h) a.s) _ axes (sym c.exps_on_path.ensures ∙ c.in-Values.is)

pub returns-in-Refused : goal.returns-in-Refused
unfolding over.exps_walk
returns-in-Refused c =
    let axes : length c.args.e ≡ 3 = search rules in
    let a = c.args in
    asks_read Refused tells_test (λ q x. q) a.told 9 exp a.e (λ sigma. store_walk a.u sigma a.vt (num a.h) a.s) _ axes (sym c.exps_on_path.ensures ∙ c.in-Refused.is)
