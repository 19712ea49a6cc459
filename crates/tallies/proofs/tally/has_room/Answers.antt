-- `tallies::tally::has_room` meets its contract: what its calls ensure.
use Rattle.tallies.proofs.tally.has_room.Goals as goal

pub returns : goal.returns
returns c = simp (c.fit-4.ensures, c.fit-3.ensures, c.fit-2.ensures, c.fit.ensures)
