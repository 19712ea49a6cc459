-- `host_lists::refused::flagged` meets its contract: what its calls ensure, on each path.
use Rattle.host_lists.proofs.refused.flagged.Goals as goal

pub returns-then-is_flag : goal.returns-then-is_flag
returns-then-is_flag c =
    let t = simp c.is_flag.ensures at c.if-is_flag.true in
    simp (t)

pub returns-else-is_flag : goal.returns-else-is_flag
returns-else-is_flag c =
    let t = simp c.is_flag.ensures at c.if-is_flag.false in
    simp (t)
