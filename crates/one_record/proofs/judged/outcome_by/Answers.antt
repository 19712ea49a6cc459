-- `model::judged::outcome_by` meets its contract: by the verdict.
use Rattle.one_record.proofs.judged.outcome_by.Goals as goal

pub returns-in-Refused : goal.returns-in-Refused
returns-in-Refused c = simp c.in-Refused.is
