-- `host_lists::refused::sized_vector` meets its contract: what its calls ensure, on each path.
use Rattle.host_lists.proofs.refused.sized_vector.Goals as goal

pub returns-else-ok : goal.returns-else-ok
returns-else-ok c =
    simp (c.if-ok.false, c.refused_vector.ensures)
