-- `sine::eighth` meets its contract. Assumes nothing.
use Rattle.sine.proofs.Laws.{half_lt, at_eight, below_eight, doubled}
use Rattle.sine.proofs.eighth.Goals as goal

pub overflow_mul-result : goal.overflow_mul-result
overflow_mul-result c = let h = half_lt c.args.e c.args.m c.requires c.if-e-ge1026.false in record { fits = rw c.fixed.ensures (doubled _ h) }

pub returns-then-e-ge1026 : goal.returns-then-e-ge1026
returns-then-e-ge1026 c = at_eight c.args.e c.args.m c.if-e-ge1026.true

pub returns-else-e-ge1026 : goal.returns-else-e-ge1026
returns-else-e-ge1026 c = rw c.fixed.ensures (below_eight c.args.e c.args.m c.if-e-ge1026.false)
