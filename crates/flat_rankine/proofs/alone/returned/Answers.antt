-- `flat_rankine::alone::returned` answers `by_branch q.branch q.strains`.
use Rattle.flat_rankine.proofs.alone.returned.Goals as goal

pub returns-in-Untouched : goal.returns-in-Untouched
returns-in-Untouched c =
    simp (c.answered.ensures, c.in-Untouched.is)

pub returns-in-Moved : goal.returns-in-Moved
returns-in-Moved c =
    simp (c.answered-in-Moved.ensures, c.in-Moved.is)

pub returns-in-Refused : goal.returns-in-Refused
returns-in-Refused c =
    simp c.in-Refused.is
