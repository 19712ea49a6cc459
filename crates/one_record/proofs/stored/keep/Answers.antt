-- `model::stored::keep` meets its contract: by the outcome.
use Rattle.one_record.proofs.stored.keep.Goals as goal

pub write_state-requires : goal.write_state-requires
write_state-requires c = let p = c.requires in (p.0, rw c.in-Stored.is at p.1)

pub returns-in-Untouched : goal.returns-in-Untouched
returns-in-Untouched c = simp c.in-Untouched.is

pub returns-in-Stored : goal.returns-in-Stored
returns-in-Stored c = simp (c.write_state.ensures, c.in-Stored.is)

pub returns-in-Refused : goal.returns-in-Refused
returns-in-Refused c = simp c.in-Refused.is
