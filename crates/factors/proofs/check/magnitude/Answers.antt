-- `factors::check::magnitude` meets its contract. Assumes nothing.
use Rattle.nearness.proofs.Rounded.{yes}
use Rattle.factors.proofs.Sizes.{fine, no, size_neg, size_plus}
use Rattle.factors.proofs.check.magnitude.Goals as goal

pub returns-then-x : goal.returns-then-x
returns-then-x c = λ h. size_neg c.args.x (fine c.args.x c.well_formed.0.1 h) (yes c.if-x.true)

pub returns-else-x : goal.returns-else-x
returns-else-x c = λ h. size_plus c.args.x (fine c.args.x c.well_formed.0.1 h) (no c.if-x.false)
