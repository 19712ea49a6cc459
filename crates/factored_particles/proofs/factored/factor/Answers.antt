-- `factored_particles::factored::factor` meets its contract: 1, 11 and 14 in their order.
use mathlib.Core.Path.{sym, ap, ◌∙◌}
use Rattle.factors.specs.declared.FactorsAnswer.{FactorsAnswer}
use Rattle.factored_particles.specs.Factored.{put_factors, with_factors}
use Rattle.factored_particles.proofs.FactoredLaws.{not_finite_lem, wrong, missed, accepted}
use Rattle.factored_particles.proofs.factored.factor.Goals as goal

pub returns-then-not-all_finite : goal.returns-then-not-all_finite
returns-then-not-all_finite c = not_finite_lem c.args.r.now (sym c.all_finite.ensures ∙ c.if-not-all_finite.true)

pub determinant_right-requires : goal.determinant_right-requires
determinant_right-requires c = (c.requires, sym c.all_finite.ensures ∙ c.if-not-all_finite.false)

pub returns-then-not-determinant_right : goal.returns-then-not-determinant_right
returns-then-not-determinant_right c =
    wrong c.args.r.now (sym c.all_finite.ensures ∙ c.if-not-all_finite.false) (sym c.determinant_right.ensures ∙ c.if-not-determinant_right.true)

pub read_f-requires : goal.read_f-requires
read_f-requires c = (c.requires, sym c.all_finite.ensures ∙ c.if-not-all_finite.false)

pub returns-then-x-ne0 : goal.returns-then-x-ne0
returns-then-x-ne0 c =
    let r = c.args.r.now in
    let f = sym c.all_finite.ensures ∙ c.if-not-all_finite.false in
    let d = sym c.determinant_right.ensures ∙ c.if-not-determinant_right.false in
    let x = simp c.read_f.ensures at c.factored-x.ensures in
    let n = ap (λ (a : FactorsAnswer). a.refusal) x in
    let m = missed r f d (λ z. c.if-x-ne0.true (n ∙ z)) in
    (n ∙ m.0, m.1)

pub returns : goal.returns
unfolding with_factors
returns c =
    let r = c.args.r.now in
    let f = sym c.all_finite.ensures ∙ c.if-not-all_finite.false in
    let d = sym c.determinant_right.ensures ∙ c.if-not-determinant_right.false in
    let x = simp c.read_f.ensures at c.factored-x.ensures in
    let a = accepted r f d (sym (ap (λ (a : FactorsAnswer). a.refusal) x) ∙ c.if-x-ne0.false) in
    (a.0, c.write_factors.ensures ∙ ap (λ (a : FactorsAnswer). put_factors r a.factors) x ∙ a.1)
