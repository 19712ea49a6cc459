-- `tallies::ranges::move_fits` meets its contract: what its call ensures.
use Rattle.tallies.proofs.ranges.move_fits.Goals as goal

pub returns : goal.returns
returns c = simp c.zones_fit.ensures
