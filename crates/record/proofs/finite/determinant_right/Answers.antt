-- `record::finite::determinant_right` meets its contract: what its calls ensure, on each path.
use Rattle.record.specs.Layout.{determinant_at, determinant_right}
use Rattle.record.proofs.finite.determinant_right.Goals as goal

pub returns : goal.returns
unfolding determinant_right determinant_at
returns c =
    simp (c.bits_of.ensures, c.determinant.ensures, c.read_f-f.ensures)
