-- The arguments of `new` are tested, and then the law that they make.
use mathlib.Core.Path.{sym, ◌∙◌}
use Rattle.reason.specs.declared.Reason.TheVariants.{Refused}
use Rattle.reason.specs.Reason.{untold}
use Rattle.reason.specs.Why.{tells_test}
use Rattle.reason.proofs.Why.{why_of}
use Rattle.plasticity_rankine.specs.Law.{law_of}
use Rattle.plasticity_rankine.specs.Rankine.{rankine_walk, arguments_walk}
use Rattle.plasticity_rankine.proofs.Laws.{arguments_read}
use Rattle.plasticity_rankine.proofs.RankineArguments.reason.Goals as goal

pub returns-then-elastic_finite : goal.returns-then-elastic_finite
returns-then-elastic_finite c =
    let t0 = simp c.elastic_finite.ensures at c.if-elastic_finite.true in
    let a = c.args in
    (simp (c.reason.ensures, c.law.ensures, c.elastic_finite.ensures, t0, arguments_read Refused tells_test (λ q x. q) untold, sym (why_of (rankine_walk (law_of a.self) a.u a.vt a.s)))) ∙ why_of (arguments_walk a.self a.u a.vt a.s)

pub returns-else-elastic_finite : goal.returns-else-elastic_finite
returns-else-elastic_finite c =
    let t0 = simp c.elastic_finite.ensures at c.if-elastic_finite.false in
    let a = c.args in
    (simp (c.elastic_finite.ensures, t0, arguments_read Refused tells_test (λ q x. q) untold, sym (why_of (rankine_walk (law_of a.self) a.u a.vt a.s)))) ∙ why_of (arguments_walk a.self a.u a.vt a.s)
