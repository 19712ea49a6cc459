-- `record::write_rows` meets its contract: what its calls ensure, on each path.
use Rattle.record.proofs.write_rows.Goals as goal

pub returns : goal.returns
returns c =
    simp (c.write_row-3.ensures, c.write_row-2.ensures, c.write_row.ensures)
