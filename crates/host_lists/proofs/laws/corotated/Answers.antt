-- `host_lists::laws::corotated` meets its contract: each place as it is read.
use Rattle.host_lists.proofs.laws.corotated.Goals as goal

pub returns : goal.returns
returns c = simp (c.float-3.ensures, c.float-2.ensures, c.float.ensures, c.word.ensures)
