-- The inputs, the moduli, and then the strains as they are returned.
use mathlib.Core.Bool.{◌&&◌}
use Rattle.numbers.specs.Floats.{finite}
use Rattle.tensor.specs.Finite.{row_finite}
use Rattle.walk.proofs.Every.{and_right}
use Rattle.numbers.proofs.Laws.{finite_number}
use Rattle.plasticity_rankine.specs.Law.{arguments_finite}
use Rattle.plasticity_rankine.specs.Projection.{call_over}
use Rattle.plasticity_rankine.proofs.Laws.{call_law}
use Rattle.flat_rankine.proofs.Handed.{returned_law}
use Rattle.flat_rankine.proofs.alone.project.Goals as goal

pub projected-requires : goal.projected-requires
projected-requires c =
    let a = c.args in
    let t0 = simp (c.is_finite.ensures, c.row_finite.ensures, c.parameters_finite.ensures) at c.if-parameters_finite-row_finite.true in
    finite_number a.s (and_right (arguments_finite a.law && row_finite a.strains) (finite a.s) t0)

pub returns-then-moduli_finite : goal.returns-then-moduli_finite
unfolding call_over
returns-then-moduli_finite c =
    let t0 = simp (c.is_finite.ensures, c.row_finite.ensures, c.parameters_finite.ensures) at c.if-parameters_finite-row_finite.true in
    let t1 = simp (c.moduli_finite.ensures, c.law-p.ensures) at c.if-moduli_finite.true in
    simp (c.returned.ensures, c.projected.ensures, c.law-p.ensures, t0, t1, call_law, returned_law)

pub returns-else-moduli_finite : goal.returns-else-moduli_finite
unfolding call_over
returns-else-moduli_finite c =
    let t0 = simp (c.is_finite.ensures, c.row_finite.ensures, c.parameters_finite.ensures) at c.if-parameters_finite-row_finite.true in
    let t1 = simp (c.moduli_finite.ensures, c.law-p.ensures) at c.if-moduli_finite.false in
    simp (t0, t1, call_law)

pub returns-else-parameters_finite-row_finite : goal.returns-else-parameters_finite-row_finite
unfolding call_over
returns-else-parameters_finite-row_finite c =
    let t0 = simp (c.is_finite.ensures, c.row_finite.ensures, c.parameters_finite.ensures) at c.if-parameters_finite-row_finite.false in
    simp (t0, call_law)
