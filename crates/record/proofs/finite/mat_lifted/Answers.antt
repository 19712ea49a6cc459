-- `record::finite::mat_lifted` meets its contract: what its calls ensure, on each path.
use Rattle.record.proofs.Parts.{or_low}
use Rattle.record.proofs.finite.mat_lifted.Goals as goal

pub returns : goal.returns
returns c =
    simp (or_low, c.row_lifted-3.ensures, c.row_lifted-2.ensures, c.row_lifted.ensures)
