-- `plasticity_rankine::RankineArguments::made` answers `made_of self`.
use Rattle.plasticity_rankine.specs.Law.{made_of}
use Rattle.plasticity_rankine.proofs.RankineArguments.made.Goals as goal

pub returns-then-moduli_finite : goal.returns-then-moduli_finite
unfolding made_of
returns-then-moduli_finite c =
    let t0 = simp (c.moduli_finite.ensures, c.parameters_finite.ensures, c.elastic_finite.ensures, c.law-p.ensures) at c.if-moduli_finite.true in
    let t1 = simp (c.parameters_finite.ensures, c.elastic_finite.ensures, c.law-p.ensures) at c.if-elastic_finite-parameters_finite.true in
    simp (c.moduli_finite.ensures, c.parameters_finite.ensures, c.elastic_finite.ensures, c.law-p.ensures, t0, t1)

pub returns-else-moduli_finite : goal.returns-else-moduli_finite
unfolding made_of
returns-else-moduli_finite c =
    let t0 = simp (c.moduli_finite.ensures, c.parameters_finite.ensures, c.elastic_finite.ensures, c.law-p.ensures) at c.if-moduli_finite.false in
    let t1 = simp (c.parameters_finite.ensures, c.elastic_finite.ensures, c.law-p.ensures) at c.if-elastic_finite-parameters_finite.true in
    simp (c.moduli_finite.ensures, c.parameters_finite.ensures, c.elastic_finite.ensures, c.law-p.ensures, t0, t1)

pub returns-else-elastic_finite-parameters_finite : goal.returns-else-elastic_finite-parameters_finite
unfolding made_of
returns-else-elastic_finite-parameters_finite c =
    let t0 = simp (c.parameters_finite.ensures, c.elastic_finite.ensures, c.law-p.ensures) at c.if-elastic_finite-parameters_finite.false in
    simp (c.parameters_finite.ensures, c.elastic_finite.ensures, c.law-p.ensures, t0)
