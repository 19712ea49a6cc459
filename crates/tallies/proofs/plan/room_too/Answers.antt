-- `tallies::plan::room_too` meets its contract: what its calls ensure.
use Rattle.tallies.proofs.plan.room_too.Goals as goal

pub returns : goal.returns
returns c = simp (c.has_room.ensures, c.with_particles-u.ensures, c.count_at.ensures)
