-- `sheet::reading::after_parameters` meets its contract: each return is a case of `after_count`.
use borrow.Author.Tests.{lt-ltb, le-ltb}
use Rattle.sheet.proofs.reading.after_parameters.Goals as goal

pub returns-then-count-gt-MOST_COUNT : goal.returns-then-count-gt-MOST_COUNT
returns-then-count-gt-MOST_COUNT c = simp (← c.number_at-n.ensures, c.in-Read.is, lt-ltb _ _ c.if-count-gt-MOST_COUNT.true) c.refused-then-count-gt-MOST_COUNT.ensures

pub returns-in-Refused : goal.returns-in-Refused
returns-in-Refused c = simp (← c.number_at-n.ensures, c.in-Refused.is) c.refused.ensures

pub returns-else-count-gt-MOST_COUNT : goal.returns-else-count-gt-MOST_COUNT
returns-else-count-gt-MOST_COUNT c = simp (← c.number_at-n.ensures, c.in-Read.is, le-ltb _ _ c.if-count-gt-MOST_COUNT.false)
