-- The inputs, the moduli, and then the strains as they are returned.
use mathlib.Core.Bool.{◌&&◌}
use Rattle.numbers.specs.Floats.{finite}
use Rattle.tensor.specs.Finite.{row_finite}
use Rattle.walk.proofs.Every.{and_right}
use Rattle.numbers.proofs.Laws.{finite_number}
use Rattle.plasticity_rankine.specs.Law.{parameters_finite}
use Rattle.plasticity_rankine.specs.Projection.{call_over}
use Rattle.plasticity_rankine.proofs.Laws.{call_law, returned_law}
use Rattle.plasticity_rankine.proofs.RankinePlasticity.project.Goals as goal

pub projected-requires : goal.projected-requires
projected-requires c =
    let a = c.args in
    let t0 = simp (c.moduli_finite-moduli.ensures, c.is_finite.ensures, c.row_finite.ensures, c.parameters_finite.ensures) at c.if-given.true in
    finite_number a.s (and_right (parameters_finite a.self && row_finite a.strains) (finite a.s) t0)

pub returns-then-moduli : goal.returns-then-moduli
unfolding call_over
returns-then-moduli c =
    let t0 = simp (c.moduli_finite-moduli.ensures, c.is_finite.ensures, c.row_finite.ensures, c.parameters_finite.ensures) at c.if-given.true in
    let t1 = simp (c.moduli_finite-moduli.ensures, c.is_finite.ensures, c.row_finite.ensures, c.parameters_finite.ensures) at c.if-moduli.true in
    simp (c.returned.ensures, c.projected.ensures, t0, t1, call_law, returned_law)

pub returns-else-moduli : goal.returns-else-moduli
unfolding call_over
returns-else-moduli c =
    let t0 = simp (c.moduli_finite-moduli.ensures, c.is_finite.ensures, c.row_finite.ensures, c.parameters_finite.ensures) at c.if-given.true in
    let t1 = simp (c.moduli_finite-moduli.ensures, c.is_finite.ensures, c.row_finite.ensures, c.parameters_finite.ensures) at c.if-moduli.false in
    simp (c.refused_vector.ensures, t0, t1, call_law)

pub returns-else-given : goal.returns-else-given
unfolding call_over
returns-else-given c =
    let t0 = simp (c.moduli_finite-moduli.ensures, c.is_finite.ensures, c.row_finite.ensures, c.parameters_finite.ensures) at c.if-given.false in
    simp (c.refused_vector-else-given.ensures, t0, call_law)
