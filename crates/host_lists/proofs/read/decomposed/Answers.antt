-- `host_lists::read::decomposed` meets its contract: what its calls ensure, on each path.
use Rattle.host_lists.proofs.read.decomposed.Goals as goal

pub returns : goal.returns
returns c =
    simp (c.to_rows-d.ensures, c.matrix.ensures)
