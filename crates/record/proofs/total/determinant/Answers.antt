-- `record::total::determinant` meets its contract: what its calls ensure, on each path.
use Rattle.record.specs.Layout.{determinant_at}
use Rattle.record.proofs.total.determinant.Goals as goal

pub returns : goal.returns
unfolding determinant_at
returns c =
    simp (c.bits_of.ensures, c.determinant.ensures, c.row-3.ensures, c.row-2.ensures, c.row.ensures)
