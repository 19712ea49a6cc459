-- `solid::neo_hookean::stress_and_verdict` meets its contract: the stress is judged where nothing refuses before.
use mathlib.Core.Path.{sym, ap, ◌∙◌}
use Rattle.elasticity_neo_hookean.specs.Law.{law_finite}
use Rattle.failure_maximum_stress.specs.Failure.{limits_finite}
use Rattle.solid.specs.Judged.{refused_judged}
use Rattle.solid.proofs.Passed.{asked, unasked, fewer}
use Rattle.solid.proofs.neo_hookean.stress_and_verdict.Goals as goal

pub stress-requires : goal.stress-requires
stress-requires c =
    let a = c.args in
    let e = simp (c.limits_finite.ensures, c.law_finite.ensures) at c.refusal-n.ensures in
    fewer (law_finite a.law) (limits_finite a.limits) a.r.now (sym e ∙ c.if-n-eq0.true)

pub returns-then-n-eq0 : goal.returns-then-n-eq0
returns-then-n-eq0 c =
    let e = simp (c.limits_finite.ensures, c.law_finite.ensures) at c.refusal-n.ensures in
    simp (c.judged.ensures, c.stress.ensures) (sym (asked _ c.args.r.now refused_judged _ (sym e ∙ c.if-n-eq0.true)))

pub returns-else-n-eq0 : goal.returns-else-n-eq0
returns-else-n-eq0 c =
    let e = simp (c.limits_finite.ensures, c.law_finite.ensures) at c.refusal-n.ensures in
    c.refused_judged.ensures ∙ ap refused_judged e ∙ sym (unasked _ c.args.r.now refused_judged _ (λ z. c.if-n-eq0.false (e ∙ z)))
