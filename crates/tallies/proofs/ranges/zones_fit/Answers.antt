-- `tallies::ranges::zones_fit` meets its contract: what its call ensures.
use Rattle.tallies.proofs.ranges.zones_fit.Goals as goal

pub returns : goal.returns
returns c = simp c.all_below.ensures
