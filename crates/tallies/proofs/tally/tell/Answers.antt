-- `tallies::tally::tell` meets its contract: by the outcome.
use Rattle.tallies.proofs.tally.tell.Goals as goal

pub returns-in-Untouched : goal.returns-in-Untouched
returns-in-Untouched c = simp c.in-Untouched.is

pub returns-in-Stored : goal.returns-in-Stored
returns-in-Stored c = simp c.in-Stored.is

pub returns-in-Refused : goal.returns-in-Refused
returns-in-Refused c = simp c.in-Refused.is
