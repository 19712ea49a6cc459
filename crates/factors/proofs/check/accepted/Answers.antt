-- `factors::check::accepted` meets its contract. Assumes nothing.
use mathlib.Core.Path.{sym}
use Rattle.factors.proofs.check.accepted.Goals as goal

pub returns-then-surely : goal.returns-then-surely
returns-then-surely c = sym (c.surely.ensures c.if-surely.true (λ h. (c.largest-m.ensures h).units))

pub returns : goal.returns
returns c = c.exactly.ensures (λ h. (c.largest-m.ensures h).units)
