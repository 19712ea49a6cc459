-- `record::finite::scalars_lifted` meets its contract: what its calls ensure, on each path.
use Rattle.record.proofs.Parts.{or_low}
use Rattle.record.proofs.finite.scalars_lifted.Goals as goal

pub returns : goal.returns
returns c =
    simp (or_low, c.lifted-6.ensures, c.lifted-5.ensures, c.lifted-4.ensures, c.lifted-3.ensures, c.lifted-2.ensures, c.lifted.ensures)
