-- `plasticity_nacc::NaccArguments::made` answers `made_of self`.
use Rattle.plasticity_nacc.specs.Law.{made_of}
use Rattle.std.proofs.Common.{rules}
use Rattle.plasticity_nacc.proofs.NaccArguments.made.Goals as goal

pub law-p-requires : goal.law-p-requires
law-p-requires c = search rules

pub elastic_finite-requires : goal.elastic_finite-requires
elastic_finite-requires c = search rules

pub parameters_finite-requires : goal.parameters_finite-requires
parameters_finite-requires c = search rules

pub moduli_finite-requires : goal.moduli_finite-requires
moduli_finite-requires c = search rules

pub returns-then-moduli_finite : goal.returns-then-moduli_finite
unfolding made_of
returns-then-moduli_finite c =
    let t0 = simp (c.moduli_finite.ensures, c.law-p.ensures) at c.if-moduli_finite.true in
    let t1 = simp (c.parameters_finite.ensures, c.elastic_finite.ensures, c.law-p.ensures) at c.if-elastic_finite-parameters_finite.true in
    simp (c.law-p.ensures, t0, t1)

pub returns-else-moduli_finite : goal.returns-else-moduli_finite
unfolding made_of
returns-else-moduli_finite c =
    let t0 = simp (c.moduli_finite.ensures, c.law-p.ensures) at c.if-moduli_finite.false in
    let t1 = simp (c.parameters_finite.ensures, c.elastic_finite.ensures, c.law-p.ensures) at c.if-elastic_finite-parameters_finite.true in
    simp (t0, t1)

pub returns-else-elastic_finite-parameters_finite : goal.returns-else-elastic_finite-parameters_finite
unfolding made_of
returns-else-elastic_finite-parameters_finite c =
    let t0 = simp (c.parameters_finite.ensures, c.elastic_finite.ensures, c.law-p.ensures) at c.if-elastic_finite-parameters_finite.false in
    simp (t0)
