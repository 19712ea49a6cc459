-- `sheet::words::word_at` meets its contract: each return is a case of `word_at`.
use Rattle.sheet.proofs.Cases.{late, short, whole}
use Rattle.sheet.proofs.words.word_at.Goals as goal

pub returns-then-s-at : goal.returns-then-s-at
returns-then-s-at c = late _ _ c.if-s-at.true

pub returns-then-s-at-lt8 : goal.returns-then-s-at-lt8
returns-then-s-at-lt8 c = short _ _ c.if-s-at-lt8.true

pub returns : goal.returns
returns c = whole _ _ _ c.if-s-at-lt8.false c.word.ensures
