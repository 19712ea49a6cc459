-- `reader::moved` meets its contract: each arm is a case of `moved_to`.
use Rattle.reader.proofs.moved.Goals as goal

pub returns-in-Next : goal.returns-in-Next
returns-in-Next c = simp c.in-Next.is

pub returns-in-Refused : goal.returns-in-Refused
returns-in-Refused c = simp c.in-Refused.is
