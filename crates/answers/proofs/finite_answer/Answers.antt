-- `answers::finite_answer` answers `finite_answer_of e`.
use Rattle.answers.proofs.finite_answer.Goals as goal

pub returns-in-Value : goal.returns-in-Value
returns-in-Value c =
    simp (c.answered.ensures, c.in-Value.is)

pub returns-in-Refused : goal.returns-in-Refused
returns-in-Refused c =
    simp c.in-Refused.is
