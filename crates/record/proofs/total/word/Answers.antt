-- `record::total::word` meets its contract: what its calls ensure, on each path.
use lib.ListN.{get_or-eq_default}
use native.Mathlib.Omega.{arith}
use Rattle.record.proofs.total.word.Goals as goal

pub returns-else-at-r : goal.returns-else-at-r
returns-else-at-r c =
    simp (get_or-eq_default c.args.r.now 0 {n = c.args.at} (omega (arith, c.if-at-r.false)))
