-- The arguments of `new` are tested, and then the law that they make.
use Rattle.plasticity_rankine.proofs.Laws.{arguments_law}
use Rattle.plasticity_rankine.proofs.RankineArguments.update_particle.Goals as goal

pub returns-then-elastic_finite : goal.returns-then-elastic_finite
returns-then-elastic_finite c =
    let t0 = simp c.elastic_finite.ensures at c.if-elastic_finite.true in
    simp (c.update_particle.ensures, c.law.ensures, t0, arguments_law)

pub returns-else-elastic_finite : goal.returns-else-elastic_finite
returns-else-elastic_finite c =
    let t0 = simp c.elastic_finite.ensures at c.if-elastic_finite.false in
    simp (c.refuse.ensures, t0, arguments_law)
