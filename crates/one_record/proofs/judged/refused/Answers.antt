-- `model::judged::refused` meets its contract: by the outcome.
use Rattle.one_record.proofs.judged.refused.Goals as goal

pub returns-in-Untouched : goal.returns-in-Untouched
returns-in-Untouched c v = simp c.in-Untouched.is

pub returns-in-Stored : goal.returns-in-Stored
returns-in-Stored c v = simp c.in-Stored.is

pub returns-in-Refused : goal.returns-in-Refused
returns-in-Refused c v = simp c.in-Refused.is
