-- `sheet::records::floats_of` meets its contract: the two kinds of models.
use mathlib.Core.Path.{refl}
use Rattle.sheet.specs.Records.{sheet_floats}
use Rattle.sheet.proofs.records.floats_of.Goals as goal

pub returns-then-whole : goal.returns-then-whole
unfolding sheet_floats
returns-then-whole c = let t = rw c.whole.ensures at c.if-whole.true in rw t refl

pub returns-else-whole : goal.returns-else-whole
unfolding sheet_floats
returns-else-whole c = let t = rw c.whole.ensures at c.if-whole.false in rw t refl
