-- `host_lists::refused::sized_matrix` meets its contract: what its calls ensure, on each path.
use Rattle.host_lists.proofs.refused.sized_matrix.Goals as goal

pub returns-else-ok : goal.returns-else-ok
returns-else-ok c =
    simp (c.if-ok.false, c.refused_matrix.ensures)
