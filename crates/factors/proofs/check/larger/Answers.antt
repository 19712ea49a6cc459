-- `factors::check::larger` meets its contract. Assumes nothing.
use Rattle.nearness.proofs.Rounded.{yes}
use Rattle.factors.proofs.Sizes.{no, left, right}
use Rattle.factors.proofs.check.larger.Goals as goal

pub returns-then-a-b : goal.returns-then-a-b
returns-then-a-b c = λ s t. right c.args.a c.args.b s t (yes c.if-a-b.true)

pub returns-else-a-b : goal.returns-else-a-b
returns-else-a-b c = λ s t. left c.args.a c.args.b s t (no c.if-a-b.false)
