-- `solid::judged::with_verdict` meets its contract: by the verdict.
use Rattle.solid.proofs.judged.with_verdict.Goals as goal

pub returns-in-No : goal.returns-in-No
returns-in-No c = simp c.in-No.is

pub returns-in-Yes : goal.returns-in-Yes
returns-in-Yes c = simp c.in-Yes.is

pub returns-in-Refused : goal.returns-in-Refused
returns-in-Refused c = simp (c.refused_judged.ensures, c.in-Refused.is)
