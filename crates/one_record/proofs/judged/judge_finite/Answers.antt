-- `model::judged::judge_finite` meets its contract: by the judge.
use Rattle.one_record.proofs.judged.judge_finite.Goals as goal

pub returns-in-By : goal.returns-in-By
returns-in-By c = simp (c.law_finite.ensures, c.limits_finite.ensures, c.in-By.is)
