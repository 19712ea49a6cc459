-- `sheet::reading::preamble_at` meets its contract: each return is a case of `after_model`.
use borrow.Author.Tests.{lt-ltb, le-ltb}
use Rattle.sheet.proofs.reading.preamble_at.Goals as goal

pub returns-then-model-gt-LAST : goal.returns-then-model-gt-LAST
returns-then-model-gt-LAST c = simp (← c.number_at-n.ensures, c.in-Read.is, lt-ltb _ _ c.if-model-gt-LAST.true) c.refused-then-model-gt-LAST.ensures

pub returns-in-Refused : goal.returns-in-Refused
returns-in-Refused c = simp (← c.number_at-n.ensures, c.in-Refused.is) c.refused.ensures

pub returns-else-model-gt-LAST : goal.returns-else-model-gt-LAST
returns-else-model-gt-LAST c = simp (← c.number_at-n.ensures, c.in-Read.is, le-ltb _ _ c.if-model-gt-LAST.false) c.after_model.ensures
