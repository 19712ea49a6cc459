-- `tallies::plan::count_at` meets its contract: by the place.
use mathlib.Core.Path.{sym}
use native.Mathlib.Omega.{arith}
use lib.ListN.{get_or-eq_default}
use Rattle.tallies.proofs.plan.count_at.Goals as goal

pub returns : goal.returns
returns c = let f = c.if-z-counts.false in sym (get_or-eq_default c.args.counts.now 0 (omega arith))
