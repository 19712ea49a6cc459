-- `record::finite::all_finite` meets its contract: what its calls ensure, on each path.
use Rattle.record.proofs.Parts.{or_low}
use Rattle.record.proofs.finite.all_finite.Goals as goal

pub returns : goal.returns
returns c =
    simp (or_low, c.lifted.ensures, c.mat_lifted-3.ensures, c.mat_lifted-2.ensures, c.scalars_lifted.ensures, c.row_lifted.ensures, c.mat_lifted.ensures)
