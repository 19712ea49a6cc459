-- `model::judged::verdict` meets its contract: by the judge, and by the law's outcome.
use Rattle.one_record.proofs.judged.verdict.Goals as goal

pub returns-in-Nobody : goal.returns-in-Nobody
returns-in-Nobody c = simp c.in-Nobody.is

pub returns-then-refused : goal.returns-then-refused
returns-then-refused c = simp (c.in-By.is, c.refused.ensures, c.if-refused.true)

pub returns-else-refused : goal.returns-else-refused
returns-else-refused c = simp (c.verdict_after.ensures, c.float.ensures, c.in-By.is, c.refused.ensures, c.if-refused.false)
