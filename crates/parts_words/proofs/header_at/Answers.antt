-- `parts_words::header_at` meets its contract.
use Rattle.parts_words.proofs.header_at.Goals as goal

pub returns : goal.returns
returns c =
    simp (c.word-4.ensures, c.word-3.ensures, c.word-2.ensures, c.word.ensures, c.parameters_at-parameters.ensures)
