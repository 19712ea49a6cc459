-- `host_lists::laws::neo_hookean` meets its contract: each place as it is read.
use Rattle.host_lists.proofs.laws.neo_hookean.Goals as goal

pub returns : goal.returns
returns c = simp (c.float-3.ensures, c.float-2.ensures, c.float.ensures)
