-- `plasticity_nacc::update::recomposed` answers `recomposed_of b u sigma vt alpha`.
use Rattle.plasticity_nacc.specs.Inner.{recomposed_of}
use Rattle.plasticity_nacc.proofs.update.recomposed.Goals as goal

pub returns-then-mat_finite-row_finite : goal.returns-then-mat_finite-row_finite
unfolding recomposed_of
returns-then-mat_finite-row_finite c =
    let t0 = simp (c.is_finite.ensures, c.row_finite.ensures, c.mat_finite.ensures, c.recompose-m.ensures) at c.if-mat_finite-row_finite.true in
    simp (c.to_rows-f.ensures, c.is_finite.ensures, c.row_finite.ensures, c.mat_finite.ensures, c.recompose-m.ensures, t0)

pub returns-else-mat_finite-row_finite : goal.returns-else-mat_finite-row_finite
unfolding recomposed_of
returns-else-mat_finite-row_finite c =
    let t0 = simp (c.is_finite.ensures, c.row_finite.ensures, c.mat_finite.ensures, c.recompose-m.ensures) at c.if-mat_finite-row_finite.false in
    simp (c.refused_projection.ensures, c.is_finite.ensures, c.row_finite.ensures, c.mat_finite.ensures, c.recompose-m.ensures, t0)
