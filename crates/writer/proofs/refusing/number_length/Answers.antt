-- `writer::refusing::number_length` meets its contract: one group below 128, else two.
use mathlib.Core.Path.{refl}
use borrow.Author.Tests.{lt-ltb, le-ltb}
use Rattle.sheet.specs.Spelling.{spell_number}
use Rattle.writer.proofs.refusing.number_length.Goals as goal

pub returns-then-n-lt128 : goal.returns-then-n-lt128
unfolding spell_number
returns-then-n-lt128 c = rw (lt-ltb _ 128 c.if-n-lt128.true) refl

pub returns-else-n-lt128 : goal.returns-else-n-lt128
unfolding spell_number
returns-else-n-lt128 c = rw (le-ltb _ 128 c.if-n-lt128.false) refl
