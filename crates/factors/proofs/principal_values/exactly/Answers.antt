-- `factors::principal_values::exactly` meets its contract. Assumes nothing.
use Rattle.factors.proofs.Passed.{principal_scaled}
use Rattle.factors.proofs.principal_values.exactly.Goals as goal

pub returns : goal.returns
returns c = λ e.
    let s = c.args in
    simp (c.orthogonal.ensures, c.near_all.ensures, c.row_finite.ensures, c.rows_finite.ensures, c.mat_finite.ensures, c.transpose-q.ensures, c.of_rows.ensures)
    (principal_scaled s.g s.m e s.x)
