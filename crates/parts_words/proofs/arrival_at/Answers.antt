-- `parts_words::arrival_at` meets its contract.
use Rattle.parts_words.specs.Words.{arrival_at}
use Rattle.parts_words.proofs.arrival_at.Goals as goal

pub returns : goal.returns
unfolding arrival_at
returns c =
    simp (c.word-3.ensures, c.word-2.ensures, c.word.ensures, c.held_at-held.ensures, c.header_at-header.ensures)
