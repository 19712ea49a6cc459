-- `parts_words::put_held` meets its contract: the bytes are read as a record of the longest kind.
use Rattle.parts_words.proofs.Pieces.{held_words}
use Rattle.parts_words.proofs.put_held.Goals as goal

pub returns : goal.returns
returns c =
    let a = c.args in
    let q = c.requires in
    rw c.record_at.ensures.1 (held_words a.held.now a.words.now q.0 q.1)
