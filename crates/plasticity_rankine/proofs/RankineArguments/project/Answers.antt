-- The arguments of `new` are tested, and then the law that they make.
use Rattle.plasticity_rankine.proofs.Laws.{arguments_call}
use Rattle.plasticity_rankine.proofs.RankineArguments.project.Goals as goal

pub returns-then-elastic_finite : goal.returns-then-elastic_finite
returns-then-elastic_finite c =
    let t0 = simp c.elastic_finite.ensures at c.if-elastic_finite.true in
    simp (c.project.ensures, c.law.ensures, t0, arguments_call)

pub returns-else-elastic_finite : goal.returns-else-elastic_finite
returns-else-elastic_finite c =
    let t0 = simp c.elastic_finite.ensures at c.if-elastic_finite.false in
    simp (c.refused_vector.ensures, t0, arguments_call)
