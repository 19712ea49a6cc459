-- `factors::check::exactly` meets its contract. Assumes nothing.
use Rattle.factors.proofs.Passed.{factors_scaled}
use Rattle.factors.proofs.check.exactly.Goals as goal

pub returns : goal.returns
returns c = λ e.
    let s = c.args in
    simp (c.orthogonal-2.ensures, c.orthogonal.ensures, c.near_all.ensures, c.not_below.ensures, c.rows_finite-2.ensures, c.row_finite.ensures, c.rows_finite.ensures, c.mat_finite.ensures, c.transpose-v.ensures, c.of_rows.ensures, c.of_rows-u.ensures)
    (factors_scaled s.f s.m e s.x)
