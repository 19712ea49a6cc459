-- `host_lists::laws::limits` meets its contract: each place as it is read.
use Rattle.host_lists.specs.Laws.{limits_of}
use Rattle.host_lists.proofs.laws.limits.Goals as goal

pub returns : goal.returns
unfolding limits_of
returns c = simp (c.float-2.ensures, c.float.ensures)
