-- `record::total::float` meets its contract: what its calls ensure, on each path.
use Rattle.record.proofs.total.float.Goals as goal

pub returns : goal.returns
returns c =
    simp (c.float_of.ensures, c.word.ensures)
